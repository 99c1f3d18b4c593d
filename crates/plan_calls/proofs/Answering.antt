-- The numbers of answers about a plan.
-- Assumes nothing.
use Rattle.std.specs.Prelude.{true, false, Result, Ok, Err}
use Prim.Native.Nat.{ℕ}
use mathlib.Core.Bool.{Bool}
use mathlib.Core.Path.{◌≡◌, refl}
use mathlib.Core.List.{List, [], ◌∷◌, ◌++◌}
use native.Mathlib.Omega.{arith}
use Rattle.refusals.specs.Checks.{short}
use Rattle.refusals.specs.Groups.{last_refusal}
use Rattle.refusals.proofs.First.{numbered_both}
use Rattle.plan.specs.Asked.{Asked, refusal_of, refusal_with, Proper}
use Rattle.plan.specs.Bytes.{unnamed, reading}
use Rattle.plan.specs.declared.Counts.{Counts}
use Rattle.refusals.specs.Named.{outcome_of}
use Rattle.refusals.specs.declared.Refusal.{Refusal}
use Rattle.plan.proofs.Asked.{clear_passes}
use Rattle.plan.proofs.Refusals.{number_some, well_formed_range, unnamed_proper}
use Rattle.plan.proofs.Readings.{reading_refused, reading_counts}
use Rattle.prepare.specs.declared.Unprepared.TheVariants.{Refused, Unpredictable}
use Rattle.prepare.specs.Preparing.{Prepared, Prepares, CountsTo}
use Rattle.prepare.proofs.Answers.{small}
use Rattle.prepare.proofs.Promises.{count_refused_so, prepare_refused_so}
use Rattle.lookahead.specs.declared.Evidence.{Evidence}
use Rattle.claim.specs.Checking.{Checks}
use Rattle.numbers.specs.Numbers.{Number, value, refusal as refusal-number}
use Rattle.numbers.proofs.Answering.{refused_number}
use Rattle.refusals.specs.Outcomes.{refusing}
use Rattle.plan_calls.specs.Promises.{of_reading, of_prepared, of_checked}

module _ (A : Asked) (P : Proper A) where
  pub unread_number : {r : ℕ} → r ≡ refusal_of A → ¬ (r ≡ 0) → Number (refusing r)
  unfolding refusal_of
  unread_number = refused_number A.checks P.numbered

  pub short_number : (b : Bool) {r : ℕ} → r ≡ refusal_with A b → ¬ (r ≡ 0) → Number (refusing r)
  unfolding refusal_with
  short_number b = refused_number (A.checks ++ (short b ∷ [])) (numbered_both last_refusal A.checks (short b ∷ []) P.numbered refl)

  pub prepared_number : (old table old' letters : List ℕ) (a : Prepared) → Prepares A a old table old' letters
      → Number (of_prepared a).first
  prepared_number old table old' letters (Ok k) ((p, a), _, _) = let h = small (P.sized (clear_passes A P _ p)) k a in
      value (omega arith)
  prepared_number old table old' letters (Err (Refused r)) c = let (e, _, _) = prepare_refused_so A P r c in short_number _ e (number_some r)
  prepared_number old table old' letters (Err (Unpredictable e)) _ = refusal-number 15 (omega arith) (omega arith) refl

  pub counted_number : (old letters : List ℕ) (a : Prepared) → CountsTo A a old letters → Number (of_prepared a).first
  counted_number old letters (Ok k) ((p, a), _) = let h = small (P.sized (clear_passes A P _ p)) k a in value (omega arith)
  counted_number old letters (Err (Refused r)) c = let (e, _) = count_refused_so A P r c in short_number _ e (number_some r)
  counted_number old letters (Err (Unpredictable e)) _ = refusal-number 15 (omega arith) (omega arith) refl

  pub checked_number : (c : Evidence) (letters : List ℕ) (a : Result Bool Refusal) → Checks A c letters a → Number (of_checked a).first
  checked_number c letters (Ok true) _ = value (omega arith)
  checked_number c letters (Ok false) _ = value (omega arith)
  checked_number c letters (Err r) (e, z, _) = unread_number e z

pub reading_number : (plan : List ℕ) (a : Result Counts Refusal) → outcome_of a ≡ reading plan → Number (of_reading a).first
reading_number plan (Ok counts) d =
    let (w, is, _) = reading_counts plan d in
    let h = (well_formed_range plan w).n_high in
    value (omega arith)
reading_number plan (Err r) d = let (is, z) = reading_refused plan d in unread_number (unnamed plan) (unnamed_proper plan) is z
