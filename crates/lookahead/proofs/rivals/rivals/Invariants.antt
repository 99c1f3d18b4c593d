use Rattle.std.proofs.Common.{not}
use Rattle.bitset.specs.Sets.{size}
use Rattle.bitset.specs.Numbers.{has}
use Rattle.semiautomata.specs.Means.{means}
use Rattle.walks.proofs.Reaching.{Reaching}
use Rattle.lookahead.proofs.Rivalry.{Gathered}
use Rattle.lookahead.proofs.rivals.rivals.Given as goal

-- each turn all that was to do is done, one state after the other: its fork sets are paired and joined
abbrev pub invariant-loop-seen : goal.invariant-loop-seen
invariant-loop-seen l = Reaching (means l.succ) l.seen l.done 0 × Gathered l.succ l.done 0 l.rows

abbrev pub decreases-loop-seen : goal.decreases-loop-seen
decreases-loop-seen l = size l.succ.n (λ t. not (has l.done t))

abbrev pub invariant-loop-q : goal.invariant-loop-q
invariant-loop-q l =
    Reaching (means l.succ) l.seen l.done l.q-iterator.rest × Gathered l.succ l.done l.q-iterator.rest l.rows
