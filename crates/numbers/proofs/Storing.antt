-- Values that are stored at the front of a slice, and a test as a number.
-- Assumes nothing.
use Prim.Native.Nat.{ℕ, ◌≤◌}
use mathlib.Core.Bool.{Bool, true, false}
use mathlib.Core.Path.{◌≡◌, refl}
use mathlib.Core.List.{List, [], ◌∷◌, ◌++◌}
use lib.ListN.{length, drop, set}
use lib.Seq.{sets-eq}
use mir.Val.{bool_byte}
use Rattle.bitset.specs.Sets.{one_if}

module _ (old : List ℕ) (a : ℕ) where
  pub stored_one : 1 ≤ length old → set old 0 a ≡ (a ∷ []) ++ drop 1 old
  stored_one = sets-eq (a ∷ []) old 0

  pub stored_two : (b : ℕ) → 2 ≤ length old → set (set old 0 a) 1 b ≡ (a ∷ b ∷ []) ++ drop 2 old
  stored_two b = sets-eq (a ∷ b ∷ []) old 0

pub bit_of_lem : (b : Bool) → bool_byte b ≡ one_if b
bit_of_lem true = refl
bit_of_lem false = refl
