-- What each call on a plan promises for C: some answer meets the promise of the call that it stands for, and its numbers are passed on.
-- Without room for further values: the first check that applies of what is asked, or 9.
-- Assumes nothing.
use Rattle.std.specs.Prelude.{ℕ, ◌<◌, ◌≡◌, List, [], ◌∷◌, length, get_or, Bool, Result, Ok, Err}
use Rattle.bitset.specs.Sets.{one_if}
use Rattle.plan.specs.Asked.{Asked}
use Rattle.plan.specs.Bytes.{plan_checks, reading}
use Rattle.plan.specs.declared.Counts.{Counts}
use Rattle.refusals.specs.Named.{outcome_of}
use Rattle.refusals.specs.declared.Refusal.{Refusal}
use Rattle.lookahead.specs.declared.Evidence.{Evidence}
use Rattle.claim.specs.Checking.{Checks}
use Rattle.prepare.specs.declared.Unprepared.TheVariants.{Refused, Unpredictable}
use Rattle.prepare.specs.Preparing.{Prepared, Prepares, CountsTo, outcome_of_prepared, as_number}
use Rattle.filing.specs.Writing.{Writes}
use Rattle.needs.specs.Needs.{NeedsOf}
use Rattle.pages.specs.Paging.{PageOf}
use Rattle.numbers.specs.Numbers.{Numbers, valued, in_numbers, Passed, PassesOn}

-- THE NUMBERS OF EACH OUTCOME

-- n; m, p and e.
abbrev pub of_reading : Result Counts Refusal → Numbers
of_reading a = in_numbers (λ c. valued c.n (c.m ∷ c.p ∷ c.e ∷ [])) (outcome_of a)

-- k; under 15 the evidence.
abbrev pub evidence_of : Prepared → List ℕ
evidence_of (Ok k) = []
evidence_of (Err (Refused r)) = []
evidence_of (Err (Unpredictable e)) = e.state ∷ e.letter ∷ e.low ∷ e.high ∷ e.stem ∷ e.cycle ∷ []

abbrev pub of_prepared : Prepared → Numbers
of_prepared a = valued (as_number (outcome_of_prepared a)) (evidence_of a)

-- 1 for yes, 0 for no.
abbrev pub of_checked : Result Bool Refusal → Numbers
of_checked a = in_numbers (λ yes. valued (one_if yes) []) (outcome_of a)

-- How many bytes; how many needs.
abbrev pub of_count : Result ℕ Refusal → Numbers
of_count a = in_numbers (λ count. valued count []) (outcome_of a)

-- 0; how many bytes a page has, since they may be more than 65,535.
abbrev pub of_page : Result ℕ Refusal → Numbers
of_page a = in_numbers (λ count. valued 0 (count ∷ [])) (outcome_of a)

-- THE PROMISES

abbrev pub PassesReading : List ℕ → ℕ → List ℕ → List ℕ → Type 0
PassesReading plan r old counts = PassesOn of_reading 3 (plan_checks plan) (λ a. outcome_of a ≡ reading plan) Unit r old counts

abbrev pub PassesPrepared : Asked → ℕ → List ℕ → List ℕ → List ℕ → List ℕ → List ℕ → List ℕ → Type 0
PassesPrepared A r old table old' letters old'' evidence =
    PassesOn of_prepared 6 A.checks (λ a. Prepares A a old table old' letters) ((table ≡ old) × (letters ≡ old')) r old'' evidence

abbrev pub PassesCount : Asked → ℕ → List ℕ → List ℕ → List ℕ → List ℕ → Type 0
PassesCount A r old letters old' evidence =
    PassesOn of_prepared 6 A.checks (λ a. CountsTo A a old letters) (letters ≡ old) r old' evidence

-- A claim in numbers, as evidence is given; what is missing is 0, so that fewer than six numbers claim an empty loop.
abbrev pub claim_of : List ℕ → Evidence
claim_of claim = record {
  state = get_or claim 0 0;
  letter = get_or claim 1 0;
  low = get_or claim 2 0;
  high = get_or claim 3 0;
  stem = get_or claim 4 0;
  cycle = get_or claim 5 0;
}

-- .. and fewer than six numbers are never a yes.
pub record PassesCheck (A : Asked) (claim letters : List ℕ) (r : ℕ) : Type 0 where
  pub answer : Result Bool Refusal
  pub meets : Checks A (claim_of claim) letters answer
  pub passed : Passed (of_checked answer) r [] []
  pub short : length claim < 6 → ¬ (r ≡ 1)

pub record PassesWriting (plan : List ℕ) (r : ℕ) (old out : List ℕ) : Type 0 where
  pub answer : Result ℕ Refusal
  pub meets : Writes plan answer old out
  pub passed : Passed (of_count answer) r [] []

pub record PassesNeeds (A : Asked) (r : ℕ) (old needs : List ℕ) : Type 0 where
  pub answer : Result ℕ Refusal
  pub meets : NeedsOf A answer old needs
  pub passed : Passed (of_count answer) r [] []

abbrev pub PassesPage : Asked → ℕ → List ℕ → List ℕ → List ℕ → List ℕ → Type 0
PassesPage A r old out old' count = PassesOn of_page 1 A.checks (λ a. PageOf A a old out) (out ≡ old) r old' count
