-- The call (document 02, W-206): its refusals in order, its answer and what it writes.
-- Assumes nothing.
use Rattle.std.specs.Prelude.{ℕ, ◌≡◌, List, ltb, length, Result}
use Rattle.refusals.specs.declared.Refusal.{Refusal}
use Rattle.refusals.specs.Outcomes.{Gives}
use Rattle.refusals.specs.Named.{outcome_of}
use Rattle.slices.specs.Copying.{at_front}
use Rattle.plan.specs.Asked.{Asked, Passes, refusal_with}
use Rattle.needs.specs.Needs.{TellsNeeds}
use Rattle.pages.specs.Page.{page}

-- The first of what is asked and then 9 that applies with so many bytes lent for this page, 0 if none does. 9: fewer are lent than it
-- has.
abbrev pub page_refusal : Asked → List ℕ → ℕ → ℕ
page_refusal A text size = refusal_with A (ltb size (length text))

-- What a call gives that has this refusal and this page: it stands at the front of the lent bytes, which keep their rest; it answers how
-- many bytes the page has.
abbrev pub PageGives : ℕ → List ℕ → Result ℕ Refusal → List ℕ → List ℕ → Type 0
PageGives refusal text a old out =
    Gives refusal (out ≡ old) (λ count. (count ≡ length text) × (out ≡ at_front text old)) (outcome_of a)

-- What the call gives: the page of the numbers that tell the needs.
pub record PageOf (A : Asked) (a : Result ℕ Refusal) (old out : List ℕ) : Type 0 where
  pub numbers : List ℕ
  pub tells : Passes A → TellsNeeds A.means numbers
  pub gives : let text = page A.means numbers in PageGives (page_refusal A text (length old)) text a old out
