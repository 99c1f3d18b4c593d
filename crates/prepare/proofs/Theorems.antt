-- The theorems of specs/Theorems.antt.
-- Assumes nothing.
use Prim.Native.Nat.{ℕ, ◌+◌, ◌*◌, ◌≤◌}
use native.Mathlib.Omega.{arith}
use mathlib.Core.Bool.{Bool, true, false, false≢true}
use mathlib.Core.Path.{◌≡◌, refl, ◌∙◌, ap}
use mathlib.Core.Logic.{inl, inr}
use mathlib.Core.List.{List}
use Rattle.std.specs.Prelude.{Result, Ok, Err}
use lib.ListN.{length}
use Rattle.semiautomata.proofs.Shares.{lookahead_unique, lookahead_predicts}
use Rattle.semiautomata.proofs.Wide.{never_more, wide_missing, trim_lookahead, trim_unpredictable}
use Rattle.semiautomata.proofs.Bound.{lookahead_bound, lookahead_bound_one}
use Rattle.semiautomata.proofs.Waiting.{none_for_nothing, least_wait, endless_doubt}
use Rattle.semiautomata.specs.Semiautomaton.{Semiautomaton}
use Rattle.semiautomata.specs.Predictability.{Lookahead}
use Rattle.refusals.specs.Outcomes.{answered}
use Rattle.refusals.specs.declared.Refusal.{Refusal}
use Rattle.plan.specs.Asked.{Asked, Passes, Proper}
use Rattle.table.specs.Table.{sets_from, contents}
use Rattle.table.proofs.Form.{Reads, reads_contents}
use Rattle.lookahead.specs.declared.Evidence.{Evidence}
use Rattle.prepare.specs.declared.Unprepared.TheVariants.{Refused, Unpredictable}
use Rattle.prepare.specs.Preparing.{Prepared, Shown, Prepares, CountsTo}
use Rattle.claim.specs.Checking.{Checks}
use Rattle.prepare.specs.Theorems.{EitherCall, Right, Theorems, Met}
use Rattle.prepare.proofs.Answers.{sized_reads}
use Rattle.prepare.proofs.Promises.{shown_never, count_refused_so, count_never_so, prepare_refused_so, prepare_never_so}
use Rattle.plan.proofs.Asked.{clear_passes}
use Rattle.plan.proofs.Refusals.{number_some}
use Rattle.prepare.proofs.Refusals.{count_clear, prepare_clear}

module _ (A : Asked) (P : Proper A) where
  -- what an answer tells, whichever call gave it
  module _ {old letters : List ℕ} where
    ready : {k : ℕ} → EitherCall A (Ok k) old letters → Passes A × Lookahead A.means k
    ready (inl ((p, a), _)) = (clear_passes A P _ p, a)
    ready (inr (_, _, ((p, a), _, _))) = (clear_passes A P _ p, a)

    pub never : {e : Evidence} → EitherCall A (Err (Unpredictable e)) old letters → Passes A × Shown A.means e old letters
    never (inl c) = let (p, s) = count_never_so A P c in (clear_passes A P _ p, s)
    never (inr (_, _, c)) = let (p, s, _) = prepare_never_so A P c in (clear_passes A P _ p, s)

  passes : (e : Evidence) (old letters : List ℕ) → EitherCall A (Err (Unpredictable e)) old letters → (r : Result Bool Refusal)
      → Checks A e letters r → r ≡ Ok true
  passes e old letters s (Err r) (a, n, _) = absurd (n (a ∙ (never s).0))
  passes e old letters s (Ok true) _ = refl
  passes e old letters s (Ok false) (_, (_, n)) = absurd (false≢true (n (never s).1.claimed))

  -- an answer that is no refusal is right
  right : (a : Prepared) (old letters : List ℕ) → ((r : Refusal) → ¬ (a ≡ Err (Refused r))) → EitherCall A a old letters → Right A.means a
  right (Err (Refused r)) old letters n c = absurd (n r refl)
  right (Ok j) old letters n c =
      let l = (ready c).1 in record {
        ready = λ k. (λ e. let f : j ≡ k = cc in rw f at l, λ h. ap (λ (i : ℕ). answered i) (lookahead_unique l h));
        never = (λ e. let z : ◌≡◌ {A = ℕ} 0 1 = cc in absurd (omega arith), λ u. absurd (lookahead_predicts l u));
      }
  right (Err (Unpredictable x)) old letters n c =
      let u = shown_never (never c).1 in record {
        ready = λ k. (λ e. let z : ◌≡◌ {A = ℕ} 0 1 = cc in absurd (omega arith), λ h. absurd (lookahead_predicts h u));
        never = (λ _. u, λ _. refl);
      }

  -- with room enough there is no other refusal
  module _ (w : Passes A) (a : Prepared) where
    abbrev S : Semiautomaton
    S = A.means

    counts_on : (old letters : List ℕ) → S.n * S.n ≤ length old → CountsTo A a old letters → (r : Refusal) → ¬ (a ≡ Err (Refused r))
    counts_on old letters g c r e =
        let (q, _) = count_refused_so A P r (rw e at c) in
        number_some r (q ∙ count_clear A P w g)

    prepares_on : (old table old' letters : List ℕ) → sets_from + S.n * S.m ≤ length old → S.n * S.n ≤ length old'
        → Prepares A a old table old' letters → (r : Refusal) → ¬ (a ≡ Err (Refused r))
    prepares_on old table old' letters f g c r e =
        let (q, _, _) = prepare_refused_so A P r (rw e at c) in
        number_some r (q ∙ prepare_clear A P w _ f g)

  -- the table that preparing leaves
  pub table_read : {k : ℕ} (old : List ℕ) {table : List ℕ} (old' letters : List ℕ) → Prepares A (Ok k) old table old' letters
      → Reads (contents A.means k) table
  table_read old old' letters ((p, a), t, _) = sized_reads (P.sized (clear_passes A P _ p)) a old t

  pub theorems : Theorems A
  theorems = record {
    same_k = λ k j old letters old' letters' a b. lookahead_unique (ready b).1 (ready a).1;
    not_both = λ k e old letters old' letters' a s. lookahead_predicts (ready a).1 (shown_never (never s).1);
    table_reads = λ k old table old' letters c. let r = table_read old old' letters c in (r.fit, reads_contents r);
    counted_right = λ w a old letters g c. right a old letters (counts_on w a old letters g c) (inl c);
    prepared_right = λ w a old table old' letters f g c.
        right a old' letters (prepares_on w a old table old' letters f g c) (inr (old, table, c));
    never_so = λ e old letters s. shown_never (never s).1;
    ready_so = λ k old letters a. (ready a).1;
    bound = λ k old letters a. lookahead_bound A.means (P.sized (ready a).0).within k (ready a).1;
    bound_one_letter = λ one k old letters a. lookahead_bound_one A.means (P.sized (ready a).0).within one k (ready a).1;
    never_more = λ j k old letters a. never_more A.means j k (ready a).1;
    wide_missing = λ e old letters s. wide_missing A.means (shown_never (never s).1);
    compared = λ k old letters a. (trim_lookahead A.means (P.sized (ready a).0).within k).0 (ready a).1;
    compared_missing = λ e old letters s. (trim_unpredictable A.means (P.sized (never s).0).within).0 (shown_never (never s).1);
    none_for_nothing = λ k old letters a h. none_for_nothing A.means (P.sized (ready a).0).within k h (ready a).1;
    least_wait = λ k old letters a. (least_wait A.means (P.sized (ready a).0).within k).0 (ready a).1;
    endless_doubt = λ e old letters s. (endless_doubt A.means (P.sized (never s).0).within).0 (shown_never (never s).1);
    evidence_passes = passes;
  }

pub met : Met
met = theorems
