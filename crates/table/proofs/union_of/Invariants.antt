use Rattle.std.proofs.Common.{◌≡◌, ℕ, get_or}
use Rattle.bitset.specs.Sets.{any}
use Rattle.bitset.specs.Numbers.{has}
use Rattle.table.proofs.union_of.Given as goal

abbrev pub invariant-loop-set : goal.invariant-loop-set
invariant-loop-set l = (t : ℕ) → has l.all t ≡ any l.set-index (λ i. has (get_or l.sets i 0) t)
