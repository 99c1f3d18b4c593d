-- What each call on a record promises for C: some answer meets the promise of the call that it stands for, and its numbers are passed on.
-- Without room for a position: 8 or 9.
-- Assumes nothing.
use Rattle.std.specs.Prelude.{ℕ, ◌≡◌, List, [], ◌∷◌, Result}
use Rattle.streaming.specs.Calls.{Reply, refused, resolved, nothing}
use Rattle.table.specs.Table.{table_check}
use Rattle.deciding.specs.Replies.{Answer, said}
use Rattle.predictor.specs.Calls.{Opens, Feeds, Ends}
use Rattle.refusals.specs.Named.{outcome_of}
use Rattle.refusals.specs.Outcomes.{refusing}
use Rattle.refusals.specs.declared.Refusal.{Refusal}
use Rattle.numbers.specs.Numbers.{Numbers, valued, in_numbers, Passed, PassesOn}

-- THE NUMBERS OF EACH OUTCOME

-- The booked stake, or 255 for none; its position.
abbrev pub of_reply : Reply → Numbers
of_reply (refused r) = valued (refusing r) []
of_reply (resolved position state) = valued state (position ∷ [])
of_reply nothing = valued 255 []

abbrev pub of_answer : Answer → Numbers
of_answer a = of_reply (said a)

-- How many positions are not booked.
abbrev pub of_ended : Result ℕ Refusal → Numbers
of_ended a = in_numbers (λ count. valued count []) (outcome_of a)

-- THE PROMISES

abbrev pub PassesOpening : List ℕ → ℕ → List ℕ → List ℕ → List ℕ → List ℕ → Type 0
PassesOpening table r old bytes old' position =
    PassesOn of_answer 1 (table_check table ∷ []) (λ a. Opens table old a bytes) (bytes ≡ old) r old' position

abbrev pub PassesLetter : List ℕ → ℕ → ℕ → List ℕ → List ℕ → List ℕ → List ℕ → Type 0
PassesLetter table letter r old bytes old' position =
    PassesOn of_answer 1 (table_check table ∷ []) (λ a. Feeds table old letter a bytes) (bytes ≡ old) r old' position

pub record PassesEnding (table bytes : List ℕ) (r : ℕ) (old sets : List ℕ) : Type 0 where
  pub answer : Result ℕ Refusal
  pub meets : Ends table bytes answer old sets
  pub passed : Passed (of_ended answer) r [] []
