-- What follows of the promises on records for C: whatever a call is lent, it answers a value below 65,536, or 65,536 plus the number of a
-- refusal; and a booked stake is below n. proofs/Theorems.antt has the proofs.
-- Assumes nothing.
use Rattle.std.specs.Prelude.{ℕ, ◌≤◌, ◌<◌, List, Some, Ok}
use Rattle.table.specs.Table.{states_of}
use Rattle.deciding.specs.declared.Resolution.{Resolution}
use Rattle.predictor.specs.Calls.{Opens, Feeds}
use Rattle.numbers.specs.Numbers.{Number}
use Rattle.record_calls.specs.Promises.{PassesOpening, PassesLetter, PassesEnding}

pub record Theorems (r : ℕ) : Type 0 where
  pub opening : (table old bytes old' position : List ℕ) → PassesOpening table r old bytes old' position → Number r
  pub feeding : (table : List ℕ) (letter : ℕ) (old bytes old' position : List ℕ)
      → PassesLetter table letter r old bytes old' position → Number r
  pub ending : (table bytes old sets : List ℕ) → PassesEnding table bytes r old sets → Number r
  -- a state that opening or a letter resolves is below n, and n is at most 64: so it is never 255, the value where nothing is resolved
  pub opened_below : (table bytes : List ℕ) (x : Resolution) (left : List ℕ) → Opens table bytes (Ok (Some x)) left
      → (x.state < states_of table) × (states_of table ≤ 64)
  pub fed_below : (table bytes : List ℕ) (letter : ℕ) (x : Resolution) (left : List ℕ) → Feeds table bytes letter (Ok (Some x)) left
      → (x.state < states_of table) × (states_of table ≤ 64)
