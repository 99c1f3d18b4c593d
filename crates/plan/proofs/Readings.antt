-- What a reading tells of the plan.
-- Assumes nothing.
use Prim.Native.Nat.{ℕ}
use mathlib.Core.Bool.{Bool, true, false, cond}
use mathlib.Core.Path.{◌≡◌, refl, sym, ◌∙◌, ap}
use mathlib.Core.List.{List}
use native.Mathlib.Omega.{arith}
use lib.Dec.{eqb}
use borrow.Author.Tests.{eqb-true, eqb-false, ne_eqb}
use Rattle.refusals.specs.Outcomes.{Outcome, refused, answered}
use Rattle.refusals.specs.Named.{number_of}
use Rattle.refusals.specs.declared.Refusal.{Refusal}
use Rattle.plan.specs.declared.Counts.{Counts}
use Rattle.plan.specs.Asked.{refusal_of}
use Rattle.plan.specs.Bytes.{header_of, asked, refusal, WellFormed, counts_of, reading}
use Rattle.plan.proofs.Refusals.{number_some, asked_zero}

module _ (plan : List ℕ) where
  abbrev read : Bool → Outcome Counts
  read b = cond b (answered (counts_of (header_of plan))) (refused (refusal plan))

  pub reading_refused : {r : ℕ} → refused r ≡ reading plan → (r ≡ refusal plan) × ¬ (r ≡ 0)
  reading_refused {r} e = go (eqb (refusal plan) 0) refl e
    where
      go : (b : Bool) → eqb (refusal plan) 0 ≡ b → refused r ≡ read b → (r ≡ refusal plan) × ¬ (r ≡ 0)
      go true d e = let z : ◌≡◌ {A = ℕ} 0 1 = cc in absurd (omega arith)
      go false d e = let i : r ≡ refusal plan = cc in (i, λ z. eqb-false (refusal plan) 0 d (sym i ∙ z))

  pub reading_well : {v : Counts} → answered v ≡ reading plan → WellFormed plan × (v ≡ counts_of (header_of plan))
  reading_well {v} e = go (eqb (refusal plan) 0) refl e
    where
      go : (b : Bool) → eqb (refusal plan) 0 ≡ b → answered v ≡ read b → WellFormed plan × (v ≡ counts_of (header_of plan))
      go true d e = (eqb-true (refusal plan) 0 d, cc)
      go false d e = let z : ◌≡◌ {A = ℕ} 0 1 = cc in absurd (omega arith)

  pub reading_counts : {v : Counts} → answered v ≡ reading plan
      → WellFormed plan × (v.n ≡ (header_of plan).n) × (v.m ≡ (header_of plan).m)
  reading_counts e = let (w, is) = reading_well e in (w, ap (λ (c : Counts). c.n) is, ap (λ (c : Counts). c.m) is)

  -- and the reading of what is loaded
  pub loaded_refused : (r : Refusal) → number_of r ≡ refusal_of (asked plan 0) → refused (number_of r) ≡ reading plan
  loaded_refused r e = let e = e ∙ asked_zero plan in rw (← e, ne_eqb _ _ (number_some r))

  pub loaded_counts : {v : Counts} → WellFormed plan → counts_of (header_of plan) ≡ v → answered v ≡ reading plan
  loaded_counts w e = rw (w, e)
