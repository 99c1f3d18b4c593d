-- An input of which the first bytes are read.
-- Assumes nothing.
use Prim.Native.Nat.{ℕ, zero, suc, ◌+◌, ◌≤◌}
use mathlib.Core.Bool.{true, false, ◌||◌, true≢false}
use mathlib.Core.Path.{◌≡◌, refl, sym}
use mathlib.Core.Logic.{inl, inr}
use mathlib.Core.List.{List, [], ◌∷◌, ◌++◌}
use native.Mathlib.Omega.{arith}
use lib.Dec.{ltb}
use lib.ListN.{length, get_or, length-append, get_or-append}
use lib.Seq.{take-append-le}
use borrow.Author.Tests.{le-ltb, ltb-false}
use Rattle.bitset.proofs.Tests.{decided, or_none, or_right}
use Rattle.inputs.specs.Inputs.{total_of, plan_of, no_plan, wanted}

-- none of three numbers is too small
pub three_long : (a b c d e f : ℕ) → (ltb a b || (ltb c d || ltb e f)) ≡ false → (b ≤ a) × (d ≤ c) × (f ≤ e)
three_long a b c d e f h =
    let (x, h) = or_none (ltb a b) (ltb c d || ltb e f) h in
    let (y, z) = or_none (ltb c d) (ltb e f) h in
    (ltb-false a b x, ltb-false c d y, ltb-false e f z)

-- the plan is whole
pub record Whole (input : List ℕ) : Type 0 where
  pub long : 16 ≤ length input
  pub total : 16 ≤ total_of input
  pub there : total_of input ≤ length input

pub whole : (input : List ℕ) → no_plan input ≡ false → Whole input
unfolding no_plan
whole input e = let (a, b, c) = three_long _ _ _ _ _ _ e in record { long = a; total = b; there = c }

total_on : (input rest : List ℕ) → 16 ≤ length input → total_of (input ++ rest) ≡ total_of input
total_on input rest h = rw (get_or-append input rest 0 14 (omega arith), get_or-append input rest 0 15 (omega arith))

module _ (input : List ℕ) (e : no_plan input ≡ false) (rest : List ℕ) where
  pub same_total : total_of (input ++ rest) ≡ total_of input
  same_total = total_on input rest (whole input e).long

  pub still_plan : no_plan (input ++ rest) ≡ false
  unfolding no_plan
  still_plan =
      let w = whole input e in
      rw (
        same_total,
        length-append input rest,
        le-ltb (length input + length rest) 16 (omega (arith, w.long)),
        le-ltb (total_of input) 16
            w.total,
        le-ltb (length input + length rest) (total_of input) (omega (arith, w.there)),
      )

  pub same_plan : plan_of (input ++ rest) ≡ plan_of input
  same_plan = rw same_total (take-append-le (total_of input) input rest (whole input e).there)

-- what is there tells whether the input has a plan, if it is as much as it wants
pub told_wanted : (input rest : List ℕ) → wanted input ≤ length input → no_plan input ≡ true → no_plan (input ++ rest) ≡ true
unfolding no_plan
told_wanted input rest h none = elim (decided (ltb (total_of input) 16)) [
  | inl e ↦ rw (total_on input rest (omega arith), e) (or_right (ltb (length (input ++ rest)) 16) true refl)
  | inr e ↦ let none' = rw (le-ltb (length input) 16 (omega arith), e, le-ltb (length input) (total_of input) (omega arith)) at none in
      absurd (true≢false (sym none'))
]

-- as more of an input is there, it wants no less for its plan
byte_grows : (xs ys : List ℕ) (i : ℕ) → get_or xs i 0 ≤ get_or (xs ++ ys) i 0
byte_grows [] ys i = omega arith
byte_grows (x ∷ xs) ys zero = omega arith
byte_grows (x ∷ xs) ys (suc i) = byte_grows xs ys i

pub wanted_grows : (seen piece : List ℕ) → wanted seen ≤ wanted (seen ++ piece)
wanted_grows seen piece = omega (arith, byte_grows seen piece 14, byte_grows seen piece 15)
