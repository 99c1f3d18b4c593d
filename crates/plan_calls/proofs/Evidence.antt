-- The numbers of preparing's answers are small; and a claim of fewer than six numbers is not true.
-- Assumes nothing.
use Rattle.std.specs.Prelude.{Bool, true, false, Result, Ok, Err, IfOk}
use Prim.Native.Nat.{ℕ, ◌^◌, ◌<◌}
use mathlib.Core.Path.{◌≡◌, refl}
use mathlib.Core.List.{List}
use native.Mathlib.Omega.{arith}
use lib.ListN.{length, drop, length-take, get_or-eq_default}
use Rattle.semiautomata.specs.Semiautomaton.{Semiautomaton}
use Rattle.plan.specs.Asked.{Asked, Proper}
use Rattle.lookahead.specs.declared.Evidence.{Evidence}
use Rattle.lookahead.specs.Answers.{TrueOf}
use Rattle.refusals.specs.declared.Refusal.{Refusal}
use Rattle.prepare.specs.Preparing.{Prepared, Prepares, CountsTo}
use Rattle.claim.specs.Checking.{Checks}
use Rattle.plan.proofs.Asked.{clear_passes}
use Rattle.prepare.proofs.Answers.{small}
use Rattle.plan_calls.specs.Promises.{of_checked, claim_of, PassesCheck}

module _ (A : Asked) (P : Proper A) where
  pub prepares_fit : (a : Prepared) (old table old' letters : List ℕ) → Prepares A a old table old' letters → IfOk a (λ k. k < 2 ^ 32)
  prepares_fit (Ok k) old table old' letters ((p, a), _, _) = omega (arith, small (P.sized (clear_passes A P _ p)) k a)
  prepares_fit (Err u) old table old' letters _ = tt

  pub counts_fit : (a : Prepared) (old letters : List ℕ) → CountsTo A a old letters → IfOk a (λ k. k < 2 ^ 32)
  counts_fit (Ok k) old letters ((p, a), _) = omega (arith, small (P.sized (clear_passes A P _ p)) k a)
  counts_fit (Err u) old letters _ = tt

-- the sixth number is the length of the cycle
pub short_false : (S : Semiautomaton) (claim letters : List ℕ) → length claim < 6 → ¬ TrueOf S (claim_of claim) letters
short_false S claim letters h t =
    let z = get_or-eq_default claim 0 {n = 5} (omega arith) in
    omega (arith, z, length-take (claim_of claim).cycle (drop (claim_of claim).stem letters), t.witness.turns)

module _ (A : Asked) (claim letters : List ℕ) where
  -- what the check of a claim answers, in a number
  pub passes_check : {c : Evidence} → c ≡ claim_of claim → (a : Result Bool Refusal) → Checks A c letters a → {r : ℕ} → r ≡ (of_checked a).first
      → PassesCheck A claim letters r
  passes_check i a m e = go a (rw i at m) e
    where
      go : (a : Result Bool Refusal) → Checks A (claim_of claim) letters a → {r : ℕ} → r ≡ (of_checked a).first → PassesCheck A claim letters r
      go (Ok true) m e = record {
        answer = Ok true;
        meets = m;
        passed = record { answered = e; written = refl };
        short = λ h _. short_false A.means claim letters h (m.1.0 refl);
      }
      go (Ok false) m e = record {
        answer = Ok false;
        meets = m;
        passed = record { answered = e; written = refl };
        short =
            λ _ z. omega arith;
      }
      go (Err r) m e =
          record { answer = Err r; meets = m; passed = record { answered = e; written = refl }; short = λ _ z. omega arith }
