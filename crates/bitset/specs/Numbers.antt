-- Sets of states as numbers: document 01 writes a set as a 64-bit number, bit s for stake s.
-- Assumes nothing.
use Rattle.std.specs.Prelude.{ℕ, zero, suc, ◌+◌, ◌*◌, ◌/◌, ◌%◌, ◌^◌, Bool, eqb}
use Rattle.bitset.specs.Sets.{one_if}

-- s is a member of the set that a number stands for: bit s of it is 1
unfoldable pub has : ℕ → ℕ → Bool
has set s = eqb (set / 2 ^ s % 2) 1

-- the number that stands for the set of those below n that are in p
unfoldable pub set_of : ℕ → (ℕ → Bool) → ℕ
set_of zero p = 0
set_of (suc n) p = set_of n p + one_if (p n) * 2 ^ n
