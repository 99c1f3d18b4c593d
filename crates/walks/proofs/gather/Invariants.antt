use Rattle.bitset.proofs.Taking.{Left, Joined, Counted}
use Rattle.semiautomata.specs.Successors.{set_at}
use Rattle.walks.proofs.gather.Given as goal

-- `out` joins the sets of the members taken, and `rounds` counts them
abbrev pub invariant-loop-s : goal.invariant-loop-s
invariant-loop-s l =
    Left l.succ.n l.set l.s-iterator.rest × Joined l.succ.n l.set l.s-iterator.rest (λ s. set_at l.succ.m l.succ.sets.now s l.letter) l.out
    × Counted l.set l.s-iterator.rest l.rounds
