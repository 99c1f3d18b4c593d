use Rattle.std.proofs.Common.{◌&&◌}
use Rattle.bitset.specs.Sets.{any}
use Rattle.bitset.specs.Numbers.{has}
use Rattle.bitset.proofs.Taking.{Left, Picked}
use Rattle.semiautomata.specs.Successors.{set_at}
use Rattle.walks.proofs.back.Given as goal

-- `out` has the members taken whose set meets the target
abbrev pub invariant-loop-s : goal.invariant-loop-s
invariant-loop-s l =
    Left l.succ.n l.set l.s-iterator.rest
    × Picked l.set l.s-iterator.rest (λ s. any l.succ.n (λ t. has l.target t && has (set_at l.succ.m l.succ.sets.now s l.letter) t)) l.out
