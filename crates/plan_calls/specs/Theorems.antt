-- What follows of the promises on plans for C: whatever a call is lent, it answers a value below 65,536, or 65,536 plus the number of a
-- refusal; what writing wrote is what the theorems of crate filing speak of, the needs are those that crate needs speaks of, and the page
-- is that of which crate pages speaks.
-- proofs/Theorems.antt has the proofs.
-- Assumes nothing.
use Rattle.std.specs.Prelude.{ℕ, ◌+◌, ◌*◌, ◌≤◌, ◌<◌, ◌⊎◌, ◌↔◌, ◌≡◌, List, length, get_or, take}
use Rattle.std.proofs.Math.Option.{some}
use Rattle.semiautomata.specs.Predictability.{Critical, named}
use Rattle.semiautomata.specs.Sizes.{endless}
use Rattle.plan.specs.Asked.{Asked, Passes, Proper}
use Rattle.table.specs.Table.{sets_from}
use Rattle.prepare.specs.Preparing.{Draws}
use Rattle.filing.specs.Theorems.{WrittenFor}
use Rattle.needs.specs.Needs.{Of, place_of, entries, TellsNeeds, largest}
use Rattle.needs.specs.Theorems.{SomeEndless}
use Rattle.needs.specs.Theorems as needs_theorems
use Rattle.pages.specs.Page.{page, max_page}
use Rattle.pages.specs.Theorems as pages_theorems
use Rattle.refusals.specs.Outcomes.{refusing}
use Rattle.numbers.specs.Numbers.{Number}
use Rattle.plan_calls.specs.Promises.{PassesReading, PassesPrepared, PassesCount, PassesCheck, PassesWriting, PassesNeeds}
use Rattle.plan_calls.specs.Promises.{PassesPage}

-- What preparing, the count call or the drawing program's entry (which asks for party 0) answers for C, buffers lent to it being long
-- enough.
pub data AnswersAhead (A : Asked) (answer : ℕ) : Type 0 where
  prepared : (old table old' letters old'' evidence : List ℕ) → sets_from + A.means.n * A.means.m ≤ length old
      → A.means.n * A.means.n ≤ length old' → 6 ≤ length old''
      → PassesPrepared A answer old table old' letters old'' evidence → AnswersAhead A answer
  counted : (old letters old' evidence : List ℕ) → A.means.n * A.means.n ≤ length old → 6 ≤ length old'
      → PassesCount A answer old letters old' evidence → AnswersAhead A answer
  drawn : Draws A answer → AnswersAhead A answer

-- Preparing or the count call, lent room for the numbers of evidence, answers 15 for C and leaves these.
abbrev pub ShowsEvidence : Asked → List ℕ → Type 0
ShowsEvidence A evidence =
    ((old : List ℕ) × (table : List ℕ) × (old' : List ℕ) × (letters : List ℕ) × (old'' : List ℕ) × (6 ≤ length old'')
    × PassesPrepared A (refusing 15) old table old' letters old'' evidence)
    ⊎ ((old : List ℕ) × (letters : List ℕ) × (old' : List ℕ) × (6 ≤ length old')
    × PassesCount A (refusing 15) old letters old' evidence)

-- Of the calls that name no party, reading and writing.
pub record Unnamed (r : ℕ) : Type 0 where
  pub reading : (plan old counts : List ℕ) → PassesReading plan r old counts → Number r
  pub writing : (plan old out : List ℕ) → PassesWriting plan r old out → Number r
  -- What a call that was not refused wrote is what filing/specs/Theorems speaks of.
  pub written : (plan old out : List ℕ) → PassesWriting plan r old out → r < 65536 → WrittenFor plan (take r out)

-- Of those that name one, whatever they ask.
pub record Theorems (A : Asked) (r : ℕ) : Type 0 where
  pub preparing : (old table old' letters old'' evidence : List ℕ)
      → PassesPrepared A r old table old' letters old'' evidence → Number r
  pub counting : (old letters old' evidence : List ℕ) → PassesCount A r old letters old' evidence → Number r
  pub drawing : Draws A r → Number r
  pub checking : (claim letters : List ℕ) → PassesCheck A claim letters r → Number r
  pub needing : (old needs : List ℕ) → PassesNeeds A r old needs → Number r
  pub paging : (old out old' count : List ℕ) → PassesPage A r old out old' count → Number r
  -- What a call for the needs that was not refused wrote is what needs/specs/Theorems speaks of; and where no check applies and enough
  -- numbers are lent, it is not refused.
  pub needed : (old needs : List ℕ) → PassesNeeds A r old needs → Passes A → entries A.means ≤ length old
      → r ≡ entries A.means
  pub told : (old needs : List ℕ) → PassesNeeds A r old needs → r < 65536 → needs_theorems.Theorems A (take r needs)
  -- Where no entry is 65,535, k is answered, the largest of the entries other than 65,534, or 0 if there is no such entry; some entry is
  -- 65,535 exactly if 15 is answered; and the set that the evidence names has it.
  pub largest_ahead : (old needs : List ℕ) → PassesNeeds A r old needs → r < 65536 → (answer : ℕ) → AnswersAhead A answer
      → (¬ SomeEndless (take r needs) → answer ≡ largest (take r needs)) × (SomeEndless (take r needs) ↔ (answer ≡ refusing 15))
  pub evidence_ahead : (old needs : List ℕ) → PassesNeeds A r old needs → r < 65536
      → (evidence : List ℕ) → ShowsEvidence A evidence
      → (T : Critical) × (named A.means (get_or evidence 0 0) (get_or evidence 1 0) ≡ some T) × Of A.means T
      × (get_or (take r needs) (place_of A.means T) 0 ≡ endless)
  -- A page, whose bytes the further value counts: what pages/specs/Theorems speaks of; where no check applies and enough is lent, it is
  -- not refused, 84,009 bytes being always enough; and it is the page of the numbers that the call for the needs wrote.
  pub paged : (old out old' count : List ℕ) → PassesPage A r old out old' count → r < 65536
      → (r ≡ 0) × ((numbers : List ℕ) × pages_theorems.Theorems A numbers (take (get_or count 0 0) out))
  pub pages_so : (old out old' count : List ℕ) → PassesPage A r old out old' count → Passes A
      → (numbers : List ℕ) → TellsNeeds A.means numbers → length (page A.means numbers) ≤ length old → 1 ≤ length old'
      → (r ≡ 0) × (get_or count 0 0 ≡ length (page A.means numbers))
  pub pages_all : (old out old' count : List ℕ) → PassesPage A r old out old' count → Passes A → max_page ≤ length old
      → 1 ≤ length old' → r ≡ 0
  pub paged_needs : (old out old' count : List ℕ) → PassesPage A r old out old' count → r < 65536
      → (answer : ℕ) (old'' needs : List ℕ) → PassesNeeds A answer old'' needs → answer < 65536
      → take (get_or count 0 0) out ≡ page A.means (take answer needs)

-- They hold of everything that a call may ask, so of all plan bytes and parties (plan/specs/Theorems, `proper`).
abbrev pub Met : Type 0
Met = (A : Asked) → Proper A → (r : ℕ) → Theorems A r
