-- The report of document 01, as one definition: what the input is, and what is printed of it.
-- Assumes nothing.
use Rattle.std.specs.Prelude.{ℕ, suc, ◌-◌, true, false, cond, ◌≡◌, List, [], ◌∷◌, ◌++◌, map, length, drop}
use Rattle.bitset.specs.Numbers.{set_of}
use Rattle.semiautomata.specs.Semiautomaton.{Semiautomaton}
use Rattle.semiautomata.specs.Predictability.{Lookahead, Unpredictable}
use Rattle.streaming.specs.Calls.{Reply, refused, resolved, nothing, Result}
use Rattle.streaming.specs.PlainWalk.{plain_reply, plain_feed}
use Rattle.streaming.specs.Streaming.{unresolved}
use Rattle.plan.specs.declared.Header.{Header}
use Rattle.plan.specs.Bytes.{header_of, meaning, refusal, WellFormed}
use Rattle.inputs.specs.Inputs.{total_of, plan_of, no_plan}
use Rattle.deciding.specs.Replies.{is_refusal}
use Rattle.lines.specs.Lines.{counts_line, lookahead_line, refused_line, resolution_line, open_line}

-- THE INPUT: plan bytes (inputs/specs/Inputs), then one byte a letter.
abbrev pub input_letters : List ℕ → List ℕ
input_letters input = drop (total_of input) input

-- A WALK

-- What is printed of a reply: a refusal, a resolution (booking), or nothing.
abbrev pub reply_text : Reply → List ℕ
reply_text (refused number) = refused_line number
reply_text (resolved position state) = resolution_line position state
reply_text nothing = []

-- The open lines: the sets of possible states of the positions that are not resolved, of which the last is behind all letters fed.
unfoldable pub open_lines : ℕ → List ℕ → List ℕ
open_lines position [] = []
open_lines position (set ∷ sets) = open_line position set ++ open_lines (suc position) sets

unfoldable pub open_text : ℕ → List ℕ → List ℕ
open_text fed sets = open_lines (suc fed - length sets) sets

-- What is printed of letters that are fed from a state on: the text of each reply, and at the end the open lines. A refusal ends the walk.
unfoldable pub walk_text : {A : Type 0} → (A → ℕ → Result A) → (A → List ℕ) → A → List ℕ → List ℕ
walk_text feed ending s [] = ending s
walk_text feed ending s (a ∷ letters) =
    reply_text (feed s a).reply
    ++ cond (is_refusal (feed s a).reply) (ending (feed s a).state) (walk_text feed ending (feed s a).state letters)

-- The same of the plain walk, of which the state is the list of letters taken.
abbrev pub plain_open : Semiautomaton → ℕ → List ℕ → List ℕ
plain_open S k w = open_text (length w) (map (set_of S.n) (unresolved S k S.initial w))

unfoldable pub plain_text : Semiautomaton → ℕ → List ℕ → List ℕ
plain_text S k letters = reply_text (plain_reply S k []) ++ walk_text (plain_feed S k) (plain_open S k) [] letters

-- THE REPORT

-- After line 2: where no state is initial, opening's 13, and no more; else the plain walk.
pub data AfterLookahead (S : Semiautomaton) (k : ℕ) (letters : List ℕ) : List ℕ → Type 0 where
  no_start : ((s : ℕ) → S.initial s ≡ false) → AfterLookahead S k letters (refused_line 13)
  walked : (s : ℕ) → S.initial s ≡ true → AfterLookahead S k letters (plain_text S k letters)

-- After line 1: where there is no k, 15 in place of line 2, and no more; else k.
pub data AfterCounts (S : Semiautomaton) (letters : List ℕ) : List ℕ → Type 0 where
  never : Unpredictable S → AfterCounts S letters (refused_line 15)
  predicts : (k : ℕ) → Lookahead S k → {text : List ℕ} → AfterLookahead S k letters text → AfterCounts S letters (lookahead_line k ++ text)

-- Line 1: the counts.
abbrev pub counts_of : Header → List ℕ
counts_of h = counts_line h.n h.m h.p h.e

-- What is printed of an input: a refusal of 1 to 7 or 16 as the only line, or the counts and what comes after them.
pub data Reports (input : List ℕ) : List ℕ → Type 0 where
  no_plan_lem : no_plan input ≡ true → Reports input (refused_line 1)
  ill_formed : no_plan input ≡ false → ¬ WellFormed (plan_of input) → Reports input (refused_line (refusal (plan_of input)))
  well_formed : no_plan input ≡ false → WellFormed (plan_of input) → {text : List ℕ}
      → AfterCounts (meaning (plan_of input) 0) (input_letters input) text
      → Reports input (counts_of (header_of (plan_of input)) ++ text)
