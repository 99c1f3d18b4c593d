-- The promises of preparing and of the count call, put together and taken apart for each case of the answer.
-- Assumes nothing.
use Prim.Native.Nat.{ℕ}
use mathlib.Core.Path.{◌≡◌, refl, sym, ◌∙◌}
use mathlib.Core.Logic.{inl, inr}
use mathlib.Core.List.{List}
use Rattle.std.specs.Prelude.{Err}
use lib.ListN.{length}
use Rattle.semiautomata.specs.Semiautomaton.{Semiautomaton}
use Rattle.semiautomata.specs.Predictability as predictability
use Rattle.refusals.specs.Outcomes.{refused}
use Rattle.semiautomata.proofs.Decide.{witness_unpredictable}
use Rattle.plan.specs.Asked.{Asked, Proper}
use Rattle.lookahead.specs.declared.Evidence.{Evidence}
use Rattle.refusals.specs.Named.{number_of}
use Rattle.refusals.specs.declared.Refusal.{Refusal}
use Rattle.prepare.specs.declared.Unprepared.TheVariants.{Refused, Unpredictable}
use Rattle.prepare.specs.Preparing.{count_refusal, prepare_refusal, Shown, LooksAhead, Prepares, CountsTo}
use Rattle.plan.proofs.Asked.{not_15}
use Rattle.plan.proofs.Refusals.{number_some}

-- evidence shown tells that there is no look-ahead
pub shown_never : {S : Semiautomaton} {e : Evidence} {old letters : List ℕ} → Shown S e old letters → predictability.Unpredictable S
shown_never {S} s = witness_unpredictable S _ s.claimed.witness

-- a refusal that is not 15 is one before it, and 15 comes where none before it applies
before_15 : {refusal r : ℕ} {S : Semiautomaton} → ¬ (r ≡ 15) → LooksAhead refusal S (refused r) → (r ≡ refusal) × ¬ (r ≡ 0)
before_15 n (inl a) = a
before_15 n (inr (_, f, _)) = absurd (n f)

none_before : {refusal : ℕ} {S : Semiautomaton} → ¬ (refusal ≡ 15) → LooksAhead refusal S (refused 15) → refusal ≡ 0
none_before n (inl (e, _)) = absurd (n (sym e))
none_before n (inr (p, _, _)) = p

module _ (A : Asked) (P : Proper A) where
  -- THE COUNT CALL
  pub count_refused : (r : Refusal) {old : List ℕ} → number_of r ≡ count_refusal A (length old) → CountsTo A (Err (Refused r)) old old
  count_refused r e = (inl (e, number_some r), (λ q. not_15 A P _ (sym e ∙ q), refl))

  pub count_never : {e : Evidence} {old letters : List ℕ} → count_refusal A (length old) ≡ 0 → Shown A.means e old letters
      → CountsTo A (Err (Unpredictable e)) old letters
  count_never p s = (inr (p, refl, shown_never s), s)

  pub count_refused_so : (r : Refusal) {old letters : List ℕ} → CountsTo A (Err (Refused r)) old letters
      → (number_of r ≡ count_refusal A (length old)) × (letters ≡ old)
  count_refused_so r (l, (n, k)) = ((before_15 n l).0, k)

  pub count_never_so : {e : Evidence} {old letters : List ℕ} → CountsTo A (Err (Unpredictable e)) old letters
      → (count_refusal A (length old) ≡ 0) × Shown A.means e old letters
  count_never_so (l, s) = (none_before (not_15 A P _) l, s)

  -- PREPARING
  pub prepare_refused : (r : Refusal) {old old' : List ℕ} → number_of r ≡ prepare_refusal A (length old) (length old')
      → Prepares A (Err (Refused r)) old old old' old'
  prepare_refused r e = (inl (e, number_some r), refl, (λ q. not_15 A P _ (sym e ∙ q), refl))

  pub prepare_refused_so : (r : Refusal) {old table old' letters : List ℕ} → Prepares A (Err (Refused r)) old table old' letters
      → (number_of r ≡ prepare_refusal A (length old) (length old')) × (table ≡ old) × (letters ≡ old')
  prepare_refused_so r (l, t, (n, k)) = ((before_15 n l).0, t, k)

  pub prepare_never_so : {e : Evidence} {old table old' letters : List ℕ} → Prepares A (Err (Unpredictable e)) old table old' letters
      → (prepare_refusal A (length old) (length old') ≡ 0) × Shown A.means e old' letters × (table ≡ old)
  prepare_never_so (l, t, s) = (none_before (not_15 A P _) l, s, t)
