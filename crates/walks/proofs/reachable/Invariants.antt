use Rattle.std.proofs.Common.{not}
use Rattle.bitset.specs.Sets.{size}
use Rattle.bitset.specs.Numbers.{has}
use Rattle.semiautomata.specs.Means.{means}
use Rattle.walks.proofs.Reaching.{Reaching}
use Rattle.walks.proofs.reachable.Given as goal

-- each turn all that was to do is done, one state after the other
abbrev pub invariant-loop-seen : goal.invariant-loop-seen
invariant-loop-seen l = Reaching (means l.succ) l.seen l.done 0

abbrev pub decreases-loop-seen : goal.decreases-loop-seen
decreases-loop-seen l = size l.succ.n (λ t. not (has l.done t))

abbrev pub invariant-loop-s : goal.invariant-loop-s
invariant-loop-s l = Reaching (means l.succ) l.seen l.done l.s-iterator.rest
