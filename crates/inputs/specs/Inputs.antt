-- The input of a program (document 01, The report): plan bytes, and then more. The plan is as long as its total says.
-- Assumes nothing.
use Rattle.std.specs.Prelude.{ℕ, max, Bool, ◌||◌, List, ltb, length, take}
use Rattle.plan.specs.Bytes.{header_of}

abbrev pub total_of : List ℕ → ℕ
total_of input = (header_of input).total

abbrev pub plan_of : List ℕ → List ℕ
plan_of input = take (total_of input) input

-- Refusal 1 of an input: fewer than 16 bytes, a total below 16, or fewer bytes than the total.
unfoldable pub no_plan : List ℕ → Bool
no_plan input = ltb (length input) 16 || (ltb (total_of input) 16 || ltb (length input) (total_of input))

-- How many bytes of an input are wanted for its plan, as far as these say: 16 at least, and then its total.
abbrev pub wanted : List ℕ → ℕ
wanted input = max 16 (total_of input)
