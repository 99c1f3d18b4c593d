-- What follows of the promises of opening and of a letter. proofs/Theorems.antt has the proofs.
-- Assumes nothing.
use Rattle.std.specs.Prelude.{ℕ, ◌+◌, ◌≤◌, true, false, ◌≡◌, ◌↔◌, List, [], length}
use Rattle.streaming.specs.Calls.{refused}
use Rattle.refusals.specs.Checks.{first_of}
use Rattle.streaming.specs.Streaming.{opened, feed, Undecided, UndecidedBy}
use Rattle.table.specs.Table.{lookahead_of, table_meaning, unfit}
use Rattle.records.specs.Bytes.{held_from, decode, tidy}
use Rattle.deciding.specs.Replies.{Answer, said}
use Rattle.predictor.specs.Calls.{opening_checks, letter_checks, onto, opened_on, fed_on, Opens, Feeds}

pub record Theorems (table bytes : List ℕ) : Type 0 where
  -- on a fit table, with room for a record, opening does in bytes what the streaming rule does without them; and so does a letter, where
  -- the bytes keep the layout
  pub opening_is : unfit table ≡ false → held_from + lookahead_of table ≤ length bytes
      → opened_on table bytes ≡ onto (lookahead_of table) bytes (opened (table_meaning table) (lookahead_of table))
  pub feeding_is : unfit table ≡ false → held_from + lookahead_of table ≤ length bytes → tidy (lookahead_of table) bytes ≡ true
      → (letter : ℕ) → fed_on table bytes letter
      ≡ onto (lookahead_of table) bytes (feed (table_meaning table) (lookahead_of table) (decode bytes) letter)
  -- the answer is 14 exactly if none of 8 to 13 applies, a position is due, and two or more states are possible there
  pub opening_14 : (a : Answer) (left : List ℕ) → Opens table bytes a left → (said a ≡ refused 14)
      ↔ ((first_of (opening_checks table bytes) ≡ 0) × Undecided (table_meaning table) (lookahead_of table) (table_meaning table).initial 0 [])
  pub feeding_14 : (letter : ℕ) (a : Answer) (left : List ℕ) → Feeds table bytes letter a left → (said a ≡ refused 14)
      ↔ ((first_of (letter_checks table bytes letter) ≡ 0) × UndecidedBy (table_meaning table) (lookahead_of table) (decode bytes) letter)
