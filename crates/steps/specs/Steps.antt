-- Where a report stands, and its steps: which call comes next. The bytes that are read go into one buffer, and a step is lent its front.
-- Assumes nothing.
use Rattle.std.specs.Prelude.{ℕ, ◌≤◌, ◌<◌, ◌⊎◌, ◌≡◌, List, [], ◌++◌, length, take, Some}
use Rattle.text.specs.declared.Printed.TheVariants.{Going, Ended}
use Rattle.steps.specs.declared.Stage.{Stage}
use Rattle.steps.specs.declared.Stage.TheVariants.{Plan, Letters, Over}
use Rattle.slices.specs.Appending.{Appended}
use Rattle.inputs.specs.Inputs.{wanted}
use Rattle.text.specs.Calls.{open_on, FeedsPart, Begins}

-- What is read next: into the buffer from this place on, up to that one. Nothing is read once the report is over.
abbrev pub read_from : Stage → ℕ
read_from (Plan from upto) = from
read_from Letters = 0
read_from Over = 0

abbrev pub read_upto : Stage → ℕ
read_upto (Plan from upto) = upto
read_upto Letters = 4096
read_upto Over = 0

-- A buffer of 65,535 bytes, the greatest total, has room for it.
pub record Readable (stage : Stage) : Type 0 where
  pub order : read_from stage ≤ read_upto stage
  pub fits : read_upto stage ≤ 65535

-- One step: of a stage and the front of the buffer, how many bytes are to be written, the next stage, and the memory that is left. It
-- begins at the first stage or at one that a step answered, so that no more is read of a plan than it has bytes (`Runs`).
pub data Steps (input table bytes old : List ℕ) : Stage → ℕ → Stage → List ℕ → List ℕ → List ℕ → Type 0 where
  -- more of the plan is there, and not yet all: nothing is done but to read on
  reads_on : {from upto : ℕ} → from < length input → length input < wanted input
      → Steps input table bytes old (Plan from upto) 0 (Plan (length input) (wanted input)) table bytes old
  -- all of it is there, or nothing came and the input is at its end: the first lines, and then the walk goes on or nothing follows
  begins : {from upto : ℕ} → (length input ≤ from) ⊎ (wanted input ≤ length input) → {r : ℕ} {table' left out : List ℕ}
      → Begins input table bytes (Some (Going r)) table' left old out → Steps input table bytes old (Plan from upto) r Letters table' left out
  begins_last : {from upto : ℕ} → (length input ≤ from) ⊎ (wanted input ≤ length input) → {r : ℕ} {table' left out : List ℕ}
      → Begins input table bytes (Some (Ended r)) table' left old out → Steps input table bytes old (Plan from upto) r Over table' left out
  -- letters came: their lines, and the walk goes on; or a refusal ends it, and the open lines follow
  feeds : 0 < length input → {r : ℕ} {left out : List ℕ} → FeedsPart table bytes input (Some (Going r)) left old out
      → Steps input table bytes old Letters r Letters table left out
  feeds_last : {at r : ℕ} {left mid out : List ℕ} → FeedsPart table bytes input (Some (Ended at)) left old mid
      → Appended mid at (open_on table left) r out → Steps input table bytes old Letters r Over table left out
  -- none came: the input is at its end, and the open lines follow
  finishes : length input ≡ 0 → {r : ℕ} {out : List ℕ} → Appended old 0 (open_on table bytes) r out
      → Steps input table bytes old Letters r Over table bytes out
  stays : Steps input table bytes old Over 0 Over table bytes old

-- A run of steps over an input, and the text of it: as many bytes as each step answered. `seen` is the front of the buffer that is kept.
-- Each read takes a piece of the input, as long as it likes up to the place that the stage names; it takes none only at the input's end.
-- Each step is lent the table and the record that the step before left. What comes after the last step is not read.
pub data Runs : Stage → (seen table bytes input text : List ℕ) → Type 0 where
  over : {seen table bytes input : List ℕ} → Runs Over seen table bytes input []
  on : {stage next : Stage} {seen table bytes table' left old : List ℕ} (piece rest : List ℕ) {r : ℕ} {out text : List ℕ}
      → (length piece ≡ 0 → length rest ≡ 0) → length (seen ++ piece) ≤ read_upto stage
      → Steps (seen ++ piece) table bytes old stage r next table' left out
      → Runs next (take (read_from next) (seen ++ piece)) table' left rest text
      → Runs stage seen table bytes (piece ++ rest) (take r out ++ text)
