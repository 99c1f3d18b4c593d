-- What the page program prints of an input (document 02, W-206): the page of its plan for party 0, or the line of its refusal as in the
-- report.
-- Assumes nothing.
use Rattle.std.specs.Prelude.{ℕ, cond, ◌≡◌, List, Result, Ok, Err}
use Rattle.refusals.specs.Named.{number_of}
use Rattle.refusals.specs.declared.Refusal.{Refusal}
use Rattle.slices.specs.Appending.{Appended}
use Rattle.plan.specs.Bytes.{meaning, refusal}
use Rattle.inputs.specs.Inputs.{plan_of, no_plan}
use Rattle.needs.specs.Needs.{TellsNeeds}
use Rattle.pages.specs.Page.{page}
use Rattle.lines.specs.Lines.{refused_line}

-- The first of 1 to 7 and 16 that applies to an input, 0 if none does. What stands behind the plan is not looked at.
unfoldable pub input_refusal : List ℕ → ℕ
input_refusal input = cond (no_plan input) 1 (refusal (plan_of input))

-- What is printed of it.
pub data Shows (input : List ℕ) : List ℕ → Type 0 where
  refused : ¬ (input_refusal input ≡ 0) → Shows input (refused_line (input_refusal input))
  shown : input_refusal input ≡ 0 → (numbers : List ℕ) → TellsNeeds (meaning (plan_of input) 0) numbers
      → Shows input (page (meaning (plan_of input) 0) numbers)

-- It is written at the front of a buffer, which keeps its rest, and r is how many bytes it has.
pub record Prints (input old : List ℕ) (r : ℕ) (out : List ℕ) : Type 0 where
  pub text : List ℕ
  pub shows : Shows input text
  pub put : Appended old 0 text r out

-- The page alone is written; a refusal is answered, and nothing is written.
abbrev pub Paged : List ℕ → Result ℕ Refusal → List ℕ → List ℕ → Type 0
Paged input (Ok count) old out = Prints input old count out
Paged input (Err r) old out = (number_of r ≡ input_refusal input) × (out ≡ old)
