-- What a call asks, and then 9: which of them is its refusal.
-- Assumes nothing.
use Prim.Native.Nat.{ℕ}
use mathlib.Core.Bool.{Bool, true, false, cond}
use mathlib.Core.Path.{◌≡◌, sym, ◌∙◌}
use mathlib.Core.List.{[], ◌∷◌}
use mathlib.Core.Logic.{◌⊎◌, inl, inr}
use native.Mathlib.Omega.{arith}
use lib.Dec.{eqb}
use borrow.Author.Tests.{eqb-true, eqb-false}
use Rattle.bitset.proofs.Tests.{decided}
use Rattle.refusals.specs.Checks.{short}
use Rattle.refusals.specs.Groups.{last_refusal}
use Rattle.refusals.proofs.First.{first_behind, first_before}
use Rattle.plan.specs.Asked.{Asked, refusal_of, refusal_with, Passes, Proper}

module _ (A : Asked) (P : Proper A) where
  -- 9 is looked at where no check applies; else it does not matter
  pub refused_passing : Passes A → (b : Bool) → refusal_with A b ≡ cond b 9 0
  unfolding refusal_of refusal_with
  refused_passing w b = first_behind last_refusal A.checks (short b ∷ []) P.numbered w

  pub refused_unread : ¬ Passes A → (b : Bool) → refusal_with A b ≡ refusal_of A
  unfolding refusal_of refusal_with
  refused_unread n b = first_before A.checks (short b ∷ []) n

  -- a check that applies is the refusal of every call
  pub unread : {r : ℕ} → r ≡ refusal_of A → ¬ (r ≡ 0) → (b : Bool) → r ≡ refusal_with A b
  unread e n b = e ∙ sym (refused_unread (λ w. n (e ∙ w)) b)

  passing : Passes A ⊎ ¬ Passes A
  passing = elim (decided (eqb (refusal_of A) 0)) [ inl e ↦ inl (eqb-true (refusal_of A) 0 e) | inr e ↦ inr (eqb-false (refusal_of A) 0 e) ]

  -- what is not refused passes
  pub clear_passes : (b : Bool) → refusal_with A b ≡ 0 → Passes A
  clear_passes b e = elim passing [ inl w ↦ w | inr n ↦ sym (refused_unread n b) ∙ e ]

  -- no refusal before 15 is 15
  pub not_15 : (b : Bool) → ¬ (refusal_with A b ≡ 15)
  not_15 b e = elim passing [ inl w ↦ nine b (sym (refused_passing w b) ∙ e) | inr n ↦ P.other (sym (refused_unread n b) ∙ e) ]
    where
      nine : (b : Bool) → ¬ (◌≡◌ {A = ℕ} (cond b 9 0) 15)
      nine true z = omega arith
      nine false z = omega arith

-- what is asked counts by its refusal alone
pub refused_same : (A B : Asked) → Proper A → Proper B → refusal_of A ≡ refusal_of B → (b : Bool) → refusal_with A b ≡ refusal_with B b
refused_same A B P Q e b = elim (passing A P) [
  | inl w ↦ refused_passing A P w b ∙ sym (refused_passing B Q (sym e ∙ w) b)
  | inr n ↦ refused_unread A P n b ∙ e ∙ sym (refused_unread B Q (λ w. n (e ∙ w)) b)
]
