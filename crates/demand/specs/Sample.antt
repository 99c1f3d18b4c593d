-- Demand 3 on concrete bytes: plan A, its table and record as numbers, the legs of document 01's sample and refused ones among them.
-- Assumes nothing.
use Rattle.std.specs.Prelude.{ℕ, List, [], ◌∷◌, Ok, Err, None, Some}
use Rattle.streaming.specs.Calls.{Reply, refused, resolved, nothing}
use Rattle.streaming.specs.Demand3.{Demand3}
use Rattle.plan.specs.Bytes.{meaning, asked}
use Rattle.samples.specs.Plans.{bytes, A}
use Rattle.refusals.specs.declared.Refusal.TheVariants.{Letter}
use Rattle.deciding.specs.Replies.{Answer}
use Rattle.demand.specs.Demand.{Made, Walk}

abbrev pub plan_a : List ℕ
plan_a = bytes A

-- n 3, m 1, k 1, the starts {0}, then the sets {1}, {1, 2} and {}; a number behind the form is kept
abbrev pub table_a : List ℕ
table_a = 3 ∷ 1 ∷ 1 ∷ 1 ∷ 2 ∷ 6 ∷ 0 ∷ 9 ∷ []

-- the three legs of the sample; before the second and behind the last stands a code that plan A does not have
abbrev pub offered : List ℕ
offered = 0 ∷ 1 ∷ 0 ∷ 0 ∷ 256 ∷ []

abbrev pub booked : ℕ → ℕ → Answer
booked position state = Ok (Some (record { position = position; state = state }))

abbrev pub answers_on_a : List Answer
answers_on_a = booked 0 0 ∷ Err Letter ∷ booked 1 1 ∷ booked 2 1 ∷ Err Letter ∷ []

abbrev pub replies_on_a : List Reply
replies_on_a = nothing ∷ resolved 0 0 ∷ refused 12 ∷ resolved 1 1 ∷ resolved 2 1 ∷ refused 12 ∷ []

pub record OnPlanA : Type 0 where
  -- preparing's promise allows this table
  pub made : Made (asked plan_a 0) 1 table_a
  -- the promises of opening and of a leg allow these answersOnA
  pub walk : Walk table_a 1 offered (Ok None) answers_on_a
  -- demand 3 of them
  pub demand3 : Demand3 (meaning plan_a 0) 1 offered replies_on_a
