-- What a call answers is a value, or the number of a refusal.
-- Assumes nothing.
use Prim.Native.Nat.{ℕ, ◌≤◌}
use mathlib.Core.Bool.{true}
use mathlib.Core.Path.{◌≡◌, refl}
use mathlib.Core.List.{List, [], ◌∷◌, ◌++◌}
use native.Mathlib.Omega.{arith}
use Rattle.refusals.specs.Checks.{Check, first_of, short, Numbered}
use Rattle.refusals.specs.Groups.{last_refusal}
use Rattle.refusals.proofs.First.{first_le, first_both, numbered_both}
use Rattle.refusals.specs.Outcomes.{refusing}
use Rattle.numbers.specs.Numbers.{Numbers, PassesOn, answers, refuses, Number, refusal as refusal-number}

pub refused_number : (cs : List Check) → Numbered last_refusal cs → {r : ℕ} → r ≡ first_of cs → ¬ (r ≡ 0) → Number (refusing r)
refused_number cs n {r} e z = let h = first_le last_refusal cs n in refusal-number r (omega (arith, z)) (omega (arith, h, e)) refl

-- for want of room some refusal is given
no_room : (cs : List Check) → Numbered last_refusal cs → let r = first_of (cs ++ (short true ∷ [])) in (1 ≤ r) × (r ≤ last_refusal)
no_room cs n =
    let nine = short true ∷ [] in
    let z : ¬ (first_of (cs ++ nine) ≡ 0) = λ z. omega (arith, ((first_both last_refusal cs nine n).0 z).1) in
    (omega (arith, z), first_le last_refusal (cs ++ nine) (numbered_both last_refusal cs nine n refl))

module _ {A : Type 0} {numbers : A → Numbers} {room : ℕ} {before : List Check} {Meets : A → Type 0} {Kept : Type 0}
    (n : Numbered last_refusal before) (f : (a : A) → Meets a → Number (numbers a).first) where
  pub gives_number : {r : ℕ} {old more : List ℕ} → PassesOn numbers room before Meets Kept r old more → Number r
  gives_number (answers _ a m p) = rw p.answered (f a m)
  gives_number (refuses _ e _ _) = let (l, h) = no_room before n in refusal-number _ l h e
