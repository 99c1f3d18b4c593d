use Rattle.std.proofs.Common.{ℕ, ◌≡◌, take}
use Rattle.bitset.specs.Numbers.{has, set_of}
use Rattle.semiautomata.specs.Walks.{reach}
use Rattle.semiautomata.specs.Successors.{successors}
use Rattle.walks.proofs.reach_by.Given as goal

-- `out` is what the letters read lead to, whatever the initial states are
abbrev pub invariant-loop-letter : goal.invariant-loop-letter
invariant-loop-letter l =
    (starts : ℕ)
    → l.out ≡ set_of l.succ.n (reach (successors l.succ.n l.succ.m starts l.succ.sets.now) (has l.set) (take l.letter-index l.word))
