-- What follows of the calls of this crate, a line of plain words to each theorem; proofs/Theorems.antt has the proofs.
-- Assumes nothing.
use Rattle.std.specs.Prelude.{ℕ, ◌+◌, ◌-◌, ◌*◌, ◌/◌, ◌≤◌, Bool, true, false, ◌≡◌, ◌⊎◌, ◌↔◌, List, length, Result, Ok, Err}
use Rattle.semiautomata.specs.Semiautomaton.{Semiautomaton}
use Rattle.semiautomata.specs.Predictability as predictability
use Rattle.semiautomata.specs.Access.{trim}
use Rattle.semiautomata.specs.Wide.{LookaheadWide, UnpredictableWide}
use Rattle.semiautomata.specs.Waiting.{InDoubt, LeastWait}
use Rattle.refusals.specs.Outcomes.{refused, answered}
use Rattle.refusals.specs.declared.Refusal.{Refusal}
use Rattle.plan.specs.Asked.{Asked, Passes, Proper}
use Rattle.table.specs.Table.{sets_from, unfit, contents, contents_of}
use Rattle.lookahead.specs.declared.Evidence.{Evidence}
use Rattle.prepare.specs.declared.Unprepared.TheVariants.{Unpredictable}
use Rattle.prepare.specs.Preparing.{Prepared, outcome_of_prepared, Prepares, CountsTo}
use Rattle.claim.specs.Checking.{Checks}

-- Preparing or the count call gives this answer and leaves these letters; which numbers preparing was lent does not matter here.
abbrev pub EitherCall : Asked → Prepared → List ℕ → List ℕ → Type 0
EitherCall A a old letters = CountsTo A a old letters ⊎ ((old' : List ℕ) × (table : List ℕ) × Prepares A a old' table old letters)

-- The answer is right: k exactly if k is the look-ahead, and 15 exactly if there is none.
pub record Right (S : Semiautomaton) (a : Prepared) : Type 0 where
  pub ready : (k : ℕ) → (outcome_of_prepared a ≡ answered k) ↔ predictability.Lookahead S k
  pub never : (outcome_of_prepared a ≡ refused 15) ↔ predictability.Unpredictable S

pub record Theorems (A : Asked) : Type 0 where
  -- any two calls agree: the same k, or 15 from both
  pub same_k : (k j : ℕ) (old letters old' letters' : List ℕ) → EitherCall A (Ok k) old letters
      → EitherCall A (Ok j) old' letters' → j ≡ k
  pub not_both : (k : ℕ) (e : Evidence) (old letters old' letters' : List ℕ) → EitherCall A (Ok k) old letters
      → ¬ EitherCall A (Err (Unpredictable e)) old' letters'
  -- the table that preparing leaves is fit, and holds what was asked with its look-ahead
  pub table_reads : (k : ℕ) (old table old' letters : List ℕ) → Prepares A (Ok k) old table old' letters
      → (unfit table ≡ false) × (contents_of table ≡ contents A.means k)
  -- where no check applies and lent buffers are long enough, it is refused as unpredictable exactly when no k exists; else k is answered
  pub counted_right : Passes A → (a : Prepared) (old letters : List ℕ) → A.means.n * A.means.n ≤ length old
      → CountsTo A a old letters → Right A.means a
  pub prepared_right : Passes A → (a : Prepared) (old table old' letters : List ℕ) → sets_from + A.means.n * A.means.m ≤ length old
      → A.means.n * A.means.n ≤ length old' → Prepares A a old table old' letters → Right A.means a
  -- whatever is lent, 15 and k are never said in vain
  pub never_so : (e : Evidence) (old letters : List ℕ) → EitherCall A (Err (Unpredictable e)) old letters
      → predictability.Unpredictable A.means
  pub ready_so : (k : ℕ) (old letters : List ℕ) → EitherCall A (Ok k) old letters → predictability.Lookahead A.means k
  -- both bounds of k
  pub bound : (k : ℕ) (old letters : List ℕ) → EitherCall A (Ok k) old letters → k ≤ A.means.n * (A.means.n - 1) / 2
  pub bound_one_letter : A.means.m ≡ 1 → (k : ℕ) (old letters : List ℕ) → EitherCall A (Ok k) old letters → k ≤ A.means.n - 1
  -- W-202: what is answered is no more than where every critical set counts, and 15 is said of no plan that has a k then
  pub never_more : (j k : ℕ) (old letters : List ℕ) → EitherCall A (Ok j) old letters → LookaheadWide A.means k → j ≤ k
  pub wide_missing : (e : Evidence) (old letters : List ℕ) → EitherCall A (Err (Unpredictable e)) old letters → UnpredictableWide A.means
  -- 003 compared: what is answered is what 003 has of the plan without its unreachable states
  pub compared : (k : ℕ) (old letters : List ℕ) → EitherCall A (Ok k) old letters → LookaheadWide (trim A.means) k
  pub compared_missing : (e : Evidence) (old letters : List ℕ) → EitherCall A (Err (Unpredictable e)) old letters
      → UnpredictableWide (trim A.means)
  -- W-203, no leg held for nothing: where k is 1 or more, a walk from a start, wholly on the plan, has a position that exactly k - 1 legs
  -- follow, with at least two possible stakes; and it has no more than n + k legs, so that a logger takes them
  pub none_for_nothing : (k : ℕ) (old letters : List ℕ) → EitherCall A (Ok k) old letters → 1 ≤ k
      → (d : InDoubt A.means (k - 1)) × (length d.word ≤ A.means.n + k)
  -- so k is the least number such that every position of every walk on the plan that k or more legs follow has one possible stake; and
  -- under 15 any number of legs leaves some position in doubt
  pub least_wait : (k : ℕ) (old letters : List ℕ) → EitherCall A (Ok k) old letters → LeastWait A.means k
  pub endless_doubt : (e : Evidence) (old letters : List ℕ) → EitherCall A (Err (Unpredictable e)) old letters → (j : ℕ) → InDoubt A.means j
  -- the evidence that is answered passes the check
  pub evidence_passes : (e : Evidence) (old letters : List ℕ) → EitherCall A (Err (Unpredictable e)) old letters → (r : Result Bool Refusal)
      → Checks A e letters r → r ≡ Ok true

-- They hold of everything that a call may ask, so of all plan bytes (plan/specs/Theorems, `proper`).
abbrev pub Met : Type 0
Met = (A : Asked) → Proper A → Theorems A
