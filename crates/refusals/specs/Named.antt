-- The refusals by name: the documents' number of each.
-- Assumes nothing.
use Rattle.std.specs.Prelude.{ℕ, Result, Ok, Err}
use Rattle.refusals.specs.Outcomes.{Outcome, refused, answered}
use Rattle.refusals.specs.declared.Refusal.{Refusal}
use Rattle.refusals.specs.declared.Refusal.TheVariants.{Size, Edition, Counts, Parts, Start, Line, Twice, Table, Room, Record, Limit}
use Rattle.refusals.specs.declared.Refusal.TheVariants.{Letter, Nowhere, Undecided, Unpredictable, Party}

abbrev pub number_of : Refusal → ℕ
number_of Size = 1
number_of Edition = 2
number_of Counts = 3
number_of Parts = 4
number_of Start = 5
number_of Line = 6
number_of Twice = 7
number_of Table = 8
number_of Room = 9
number_of Record = 10
number_of Limit = 11
number_of Letter = 12
number_of Nowhere = 13
number_of Undecided = 14
number_of Unpredictable = 15
number_of Party = 16

-- What a call answers.
abbrev pub outcome_of : {A : Type 0} → Result A Refusal → Outcome A
outcome_of (Ok values) = answered values
outcome_of (Err r) = refused (number_of r)
