use Rattle.bitset.specs.Numbers.{has, set_of}
use Rattle.semiautomata.specs.Walks.{step}
use Rattle.semiautomata.specs.Successors.{set_at}
use Rattle.semiautomata.specs.Means.{means}
use Rattle.pairs.specs.inner.Rounds.{Paired}
use Rattle.pairs.proofs.wake_row.Given as goal

abbrev pub invariant-loop-letter : goal.invariant-loop-letter
invariant-loop-letter l =
    Paired l.fn.look l.look (set_at l.back.m l.back.sets.now l.s) (λ a. set_of l.back.n (step (means l.back) (has l.set) a)) l.letter
