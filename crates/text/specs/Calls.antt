-- What the calls promise: each prints a part of the report; together, on the table and the record that they hand on, they print it whole.
-- Assumes nothing.
use Rattle.std.specs.Prelude.{ℕ, ◌+◌, ◌*◌, ◌≤◌, ◌<◌, Bool, true, false, cond, ◌||◌, ◌⊎◌, ◌≡◌, List, [], ◌∷◌, ◌++◌, eqb, ltb, length, Option, None, Some}
use Rattle.semiautomata.specs.Semiautomaton.{Semiautomaton}
use Rattle.semiautomata.specs.Sizes.{max_states, max_letters, max_lookahead}
use Rattle.semiautomata.specs.Predictability.{Lookahead, Unpredictable}
use Rattle.plan.specs.Bytes.{meaning, WellFormed}
use Rattle.table.specs.Table.{sets_from, contents, laid_out}
use Rattle.records.specs.Bytes.{held_from, decode}
use Rattle.predictor.specs.Calls.{opened_on, fed_on, end_refusal, ended}
use Rattle.deciding.specs.Replies.{is_refusal}
use Rattle.inputs.specs.Inputs.{plan_of, no_plan}
use Rattle.text.specs.declared.Printed.{Printed}
use Rattle.text.specs.declared.Printed.TheVariants.{Going, Ended}
use Rattle.slices.specs.Appending.{Appended}
use Rattle.lines.specs.Lines.{refused_line}
use Rattle.text.specs.Report.{input_letters, open_text, walk_text, Reports}

-- What is lent: sets for an ending, numbers for a table, bytes for a record; bytes that the first lines, the line of a letter and an open
-- line take at the most.
abbrev pub most_sets : ℕ
most_sets = max_lookahead

abbrev pub table_size : ℕ
table_size = sets_from + max_states * max_letters

abbrev pub record_size : ℕ
record_size = held_from + max_lookahead

abbrev pub begin_width : ℕ
begin_width = 106

abbrev pub letter_width : ℕ
letter_width = 24

abbrev pub open_width : ℕ
open_width = 225

-- The open lines of a record, and the text of letters fed to it: the walk of Report.antt over a table and record bytes.
unfoldable pub open_on : List ℕ → List ℕ → List ℕ
open_on table bytes =
    cond (eqb (end_refusal table bytes most_sets) 0) (open_text (decode bytes).fed (ended table bytes))
    (refused_line (end_refusal table bytes most_sets))

abbrev pub walk_on : List ℕ → List ℕ → List ℕ → List ℕ
walk_on table = walk_text (fed_on table) (open_on table)

-- A text is written at a place, and of whatever letters come later it is said that this text and what follows it are printed.
pub record Laid (says : List ℕ → List ℕ → Type 0) (old : List ℕ) (at r : ℕ) (out : List ℕ) (later : List ℕ → List ℕ) : Type 0 where
  pub text : List ℕ
  pub put : Appended old at text r out
  pub follows : (letters : List ℕ) → says letters (text ++ later letters)

-- Letters fed to a record up to the first that is refused: whether there is one, and the record that is left.
pub record Fed : Type 0 where
  pub refused : Bool
  pub left : List ℕ

abbrev pub fed_upto : List ℕ → List ℕ → List ℕ → Fed
fed_upto table bytes [] = record { refused = false; left = bytes }
fed_upto table bytes (a ∷ rest) =
    cond (is_refusal (fed_on table bytes a).reply) (record { refused = true; left = (fed_on table bytes a).state })
    (fed_upto table (fed_on table bytes a).state rest)

abbrev pub FedText : List ℕ → List ℕ → List ℕ → List ℕ → List ℕ → Type 0
FedText table bytes letters rest text = walk_on table bytes (letters ++ rest) ≡ text

-- The walk goes on with the record that is left; or a refusal ended it, and its open lines follow; or fewer bytes are lent than the lines
-- of so many letters may take, and nothing is done.
abbrev pub FeedsPart : List ℕ → List ℕ → List ℕ → Option Printed → List ℕ → List ℕ → List ℕ → Type 0
FeedsPart table bytes letters (Some (Going r)) left old out =
    (letter_width * length letters ≤ length old) × (fed_upto table bytes letters ≡ record { refused = false; left = left })
    × Laid (FedText table bytes letters) old 0 r out (walk_on table left)
FeedsPart table bytes letters (Some (Ended r)) left old out =
    (letter_width * length letters ≤ length old) × (fed_upto table bytes letters ≡ record { refused = true; left = left })
    × Laid (FedText table bytes letters) old 0 r out (λ rest. open_on table left)
FeedsPart table bytes letters None left old out = (length old < letter_width * length letters) × (left ≡ bytes) × (out ≡ old)

-- How many bytes a call printed.
abbrev pub printed_of : Option Printed → ℕ
printed_of (Some (Going r)) = r
printed_of (Some (Ended r)) = r
printed_of None = 0

-- Ending: all open lines; or fewer bytes are lent than they may take, and nothing is done.
abbrev pub Finishes : List ℕ → List ℕ → Option ℕ → List ℕ → List ℕ → Type 0
Finishes table bytes (Some r) old out = (open_width * most_sets ≤ length old) × Appended old 0 (open_on table bytes) r out
Finishes table bytes None old out = (length old < open_width * most_sets) × (out ≡ old)

-- THE FIRST LINES

-- What a plan that means S leaves in the lent numbers and bytes: as they were where there is no look-ahead, else its table and what opening
-- leaves; it is over where opening is refused.
pub data Leaves (S : Semiautomaton) (table bytes : List ℕ) (is_over : Bool) (table' left : List ℕ) : Type 0 where
  unpredictable : Unpredictable S → is_over ≡ true → table' ≡ table → left ≡ bytes → Leaves S table bytes is_over table' left
  opens : (k : ℕ) → Lookahead S k → table' ≡ laid_out (contents S k) table → left ≡ (opened_on table' bytes).state
      → is_refusal (opened_on table' bytes).reply ≡ is_over
      → Leaves S table bytes is_over table' left

-- What an input leaves in them: as they were where one of 1 to 7 and 16 applies.
pub data LeavesOf (input table bytes : List ℕ) (is_over : Bool) (table' left : List ℕ) : Type 0 where
  unread : (no_plan input ≡ true) ⊎ ¬ WellFormed (plan_of input) → is_over ≡ true → table' ≡ table → left ≡ bytes
      → LeavesOf input table bytes is_over table' left
  read : no_plan input ≡ false → WellFormed (plan_of input) → Leaves (meaning (plan_of input) 0) table bytes is_over table' left
      → LeavesOf input table bytes is_over table' left

-- The first bytes of an input tell whether it has a plan: refusal 1 of them is one of the whole.
abbrev pub Told : List ℕ → List ℕ → Type 0
Told input rest = no_plan input ≡ true → no_plan (input ++ rest) ≡ true

abbrev pub ReportText : List ℕ → List ℕ → List ℕ → Type 0
ReportText input rest text = Told input rest → Reports (input ++ rest) text

-- The report's first lines; the letters among those bytes are still to be fed. A short buffer is answered so, and nothing is done.
abbrev pub Roomy : List ℕ → List ℕ → List ℕ → Type 0
Roomy table bytes old = (table_size ≤ length table) × (record_size ≤ length bytes) × (begin_width ≤ length old)

abbrev pub Begins : List ℕ → List ℕ → List ℕ → Option Printed → List ℕ → List ℕ → List ℕ → List ℕ → Type 0
Begins input table bytes (Some (Going r)) table' left old out =
    Roomy table bytes old × LeavesOf input table bytes false table' left
    × Laid (ReportText input) old 0 r out (λ rest. walk_on table' left (input_letters input ++ rest))
Begins input table bytes (Some (Ended r)) table' left old out =
    Roomy table bytes old × LeavesOf input table bytes true table' left × Laid (ReportText input) old 0 r out (λ rest. [])
Begins input table bytes None table' left old out =
    ((ltb (length table) table_size || (ltb (length bytes) record_size || ltb (length old) begin_width)) ≡ true) × (table' ≡ table)
    × (left ≡ bytes) × (out ≡ old)
