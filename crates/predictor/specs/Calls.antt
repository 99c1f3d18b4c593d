-- Opening, a letter fed and ending over a table and record bytes: their refusals in order, then the rules of
-- crates/streaming/specs/Streaming on what the bytes hold.
-- Assumes nothing.
use Rattle.std.specs.Prelude.{ℕ, ◌+◌, ◌||◌, ◌≡◌, List, [], ◌∷◌, ◌++◌, ltb, length, drop}
use Rattle.std.specs.Prelude as prelude
use Rattle.streaming.specs.Calls.{Reply, refused, resolved, nothing, Result, checked}
use Rattle.refusals.specs.Checks.{Check, first_of, short}
use Rattle.refusals.specs.Outcomes.{Gives}
use Rattle.refusals.specs.Named.{outcome_of}
use Rattle.refusals.specs.declared.Refusal.{Refusal}
use Rattle.streaming.specs.Streaming.{Rec, unopened, open_checks, settled, settled_by}
use Rattle.table.specs.Table.{lookahead_of, table_meaning, table_check}
use Rattle.records.specs.Bytes.{held_from, decode, encode}
use Rattle.deciding.specs.Replies.{Answer, said}
use Rattle.deciding.specs.Deciding.{bytes_check, decision_checks, open_sets, ListsOpen}

-- 9, of the record: fewer than 8 + k bytes.
abbrev pub record_check : List ℕ → List ℕ → Check
record_check table bytes = short (ltb (length bytes) (held_from + lookahead_of table))

-- The refusals of opening, and of a letter, that stand before 14, in order.
abbrev pub opening_checks : List ℕ → List ℕ → List Check
opening_checks table bytes = table_check table ∷ record_check table bytes ∷ open_checks (table_meaning table)

abbrev pub letter_checks : List ℕ → List ℕ → ℕ → List Check
letter_checks table bytes a =
    table_check table ∷ record_check table bytes ∷ decision_checks (table_meaning table) (lookahead_of table) bytes a

-- What is written of a reply: nothing under a refusal, else the record's bytes, the rest of the buffer as it was.
abbrev pub written : ℕ → List ℕ → Rec → Reply → List ℕ
written k bytes r (refused number) = bytes
written k bytes r (resolved i x) = encode k r ++ drop (held_from + k) bytes
written k bytes r nothing = encode k r ++ drop (held_from + k) bytes

abbrev pub onto : ℕ → List ℕ → Result Rec → Result (List ℕ)
onto k bytes done = record { reply = done.reply; state = written k bytes done.state done.reply }

-- Opening, and a letter fed: the first refusal that applies, or what the streaming rule settles, laid out in bytes.
unfoldable pub opened_on : List ℕ → List ℕ → Result (List ℕ)
opened_on table bytes =
    let S = table_meaning table in
    let k = lookahead_of table in
    checked (opening_checks table bytes) bytes (onto k bytes (settled S k S.initial unopened 0 []))

unfoldable pub fed_on : List ℕ → List ℕ → ℕ → Result (List ℕ)
fed_on table bytes a =
    let k = lookahead_of table in
    checked (letter_checks table bytes a) bytes (onto k bytes (settled_by (table_meaning table) k (decode bytes) a))

-- What opening, and a letter fed, gives: this answer, and these bytes left in the record.
abbrev pub Opens : List ℕ → List ℕ → Answer → List ℕ → Type 0
Opens table bytes answer left = (said answer ≡ (opened_on table bytes).reply) × (left ≡ (opened_on table bytes).state)

abbrev pub Feeds : List ℕ → List ℕ → ℕ → Answer → List ℕ → Type 0
Feeds table bytes letter answer left = (said answer ≡ (fed_on table bytes letter).reply) × (left ≡ (fed_on table bytes letter).state)

-- Ending: 9 also for fewer than k sets lent.
abbrev pub end_checks : List ℕ → List ℕ → ℕ → List Check
end_checks table bytes sets =
    table_check table
    ∷ short ((record_check table bytes).applies || ltb sets (lookahead_of table))
    ∷ bytes_check (table_meaning table) (lookahead_of table) bytes
    ∷ []

unfoldable pub end_refusal : List ℕ → List ℕ → ℕ → ℕ
end_refusal table bytes sets = first_of (end_checks table bytes sets)

-- The sets that ending writes, as numbers.
abbrev pub ended : List ℕ → List ℕ → List ℕ
ended table bytes = open_sets (table_meaning table) (lookahead_of table) bytes

-- What ending gives: how many they are; a refusal writes nothing.
abbrev pub Ends : List ℕ → List ℕ → prelude.Result ℕ Refusal → List ℕ → List ℕ → Type 0
Ends table bytes a old out =
    Gives (end_refusal table bytes (length old)) (out ≡ old)
    (λ c. ListsOpen (table_meaning table) (lookahead_of table) bytes c old out) (outcome_of a)
