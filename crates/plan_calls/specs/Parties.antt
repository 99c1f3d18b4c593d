-- One party's calls for C (document 02, W-207): they give what the same calls give for any edition 1 plan with that party's lines alone;
-- proofs/Parties.antt has the proofs.
-- Assumes nothing.
use Rattle.std.specs.Prelude.{ℕ, ◌≡◌, ◌↔◌, List}
use Rattle.plan.specs.Asked.{Asked, Passes}
use Rattle.plan.specs.Bytes.{parsed, asked, WellFormed}
use Rattle.plan.specs.Parties.{Alone}
use Rattle.plan_calls.specs.Promises.{PassesPrepared, PassesCount, PassesCheck, PassesNeeds, PassesPage}
use Rattle.plan_calls.specs.Theorems.{AnswersAhead}

-- Whatever a call may answer and leave where A is asked, it may where B is, and the other way round: the same k or 15, table, needs and
-- page; and what is evidence for the one is evidence for the other.
pub record SameCalls (A B : Asked) : Type 0 where
  pub preparing : (r : ℕ) (old table old' letters old'' evidence : List ℕ)
      → PassesPrepared A r old table old' letters old'' evidence ↔ PassesPrepared B r old table old' letters old'' evidence
  pub counting : (r : ℕ) (old letters old' evidence : List ℕ)
      → PassesCount A r old letters old' evidence ↔ PassesCount B r old letters old' evidence
  pub checking : (r : ℕ) (claim letters : List ℕ) → PassesCheck A claim letters r ↔ PassesCheck B claim letters r
  pub needing : (r : ℕ) (old needs : List ℕ) → PassesNeeds A r old needs ↔ PassesNeeds B r old needs
  pub paging : (r : ℕ) (old out old' count : List ℕ) → PassesPage A r old out old' count ↔ PassesPage B r old out old' count
  -- so that two calls that look ahead, one for each and lent what they need, answer the same number
  pub ahead : (a b : ℕ) → AnswersAhead A a → AnswersAhead B b → a ≡ b

-- One party's count is that of an edition 1 plan with those lines alone, and so is all else.
abbrev pub PartyAlone : Type 0
PartyAlone =
    (plan other : List ℕ) (party : ℕ) → Passes (asked plan party) → WellFormed other → Alone (parsed plan) party (parsed other)
    → SameCalls (asked plan party) (asked other 0)
