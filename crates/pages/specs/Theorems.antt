-- What follows of the page that the call wrote, a line of plain words to each theorem; proofs/Theorems.antt has the proofs.
-- Assumes nothing.
use Rattle.std.specs.Prelude.{ℕ, ◌+◌, ◌-◌, ◌*◌, ◌≤◌, ◌<◌, false, ◌≡◌, List, [], ◌∷◌, length, get_or, take, drop, Result, Ok}
use Rattle.refusals.specs.declared.Refusal.{Refusal}
use Rattle.refusals.specs.Outcomes.{answered}
use Rattle.refusals.specs.Named.{outcome_of}
use Rattle.decimals.specs.Decimals.{blanks, right, left}
use Rattle.semiautomata.specs.Semiautomaton.{Semiautomaton}
use Rattle.semiautomata.specs.Predictability.{Critical}
use Rattle.plan.specs.Asked.{Asked, Passes, Proper}
use Rattle.needs.specs.Needs.{Measured, Of, place_of, TellsNeeds, NeedsOf}
use Rattle.pages.specs.Page.{state_text, letter_text, need_text, longest_bar, bar, page_line, page, lines_before, line_count, states_of, max_page}
use Rattle.pages.specs.Paging.{PageOf}

-- A line of a page, counted from 0; and columns of a line, counted from 1.
abbrev pub line_at : List ℕ → ℕ → List ℕ
line_at text k = take page_line (drop (page_line * k) text)

abbrev pub cut : ℕ → ℕ → List ℕ → List ℕ
cut from to line = take (to + 1 - from) (drop (from - 1) line)

-- What stands in each column of the line of T, which has v for its number.
pub record InColumns (S : Semiautomaton) (T : Critical) (v : ℕ) (line : List ℕ) : Type 0 where
  pub width : length line ≡ 41
  pub state : cut 1 4 line ≡ right 4 (state_text T)
  pub column_5 : cut 5 5 line ≡ blanks 1
  pub letter : cut 6 9 line ≡ right 4 (letter_text T)
  pub column_10 : cut 10 10 line ≡ blanks 1
  pub need : cut 11 16 line ≡ right 6 (need_text v)
  pub column_17 : cut 17 17 line ≡ blanks 1
  pub bar_is : cut 18 40 line ≡ left longest_bar (bar (states_of S T))
  pub line_feed_lem : cut 41 41 line ≡ 10 ∷ []

pub record Theorems (A : Asked) (numbers text : List ℕ) : Type 0 where
  -- the numbers tell the needs, and the text is their page
  pub tells : TellsNeeds A.means numbers
  pub is : text ≡ page A.means numbers
  -- there is a line for exactly the sets that count and are not empty: each has one, behind those of the sets before it,
  pub each_line : (T : Critical) → Of A.means T → Measured A.means T
      → InColumns A.means T (get_or numbers (place_of A.means T) 0) (line_at text (lines_before numbers (place_of A.means T)))
  pub in_order_lem : (T U : Critical) → Of A.means T → Measured A.means T → place_of A.means T < place_of A.means U
      → lines_before numbers (place_of A.means T) < lines_before numbers (place_of A.means U)
  -- and each line is that of such a set;
  pub each_set : (k : ℕ) → k < line_count numbers
      → (T : Critical) × Of A.means T × Measured A.means T × (lines_before numbers (place_of A.means T) ≡ k)
  -- the page has 41 bytes for each of them, and no more than 84,009
  pub bytes : length text ≡ 41 * line_count numbers
  pub most : length text ≤ max_page
  -- where there are no initial states, it is empty
  pub no_starts : ((s : ℕ) → A.means.initial s ≡ false) → text ≡ []

pub record Calls (A : Asked) : Type 0 where
  -- where no check applies and enough bytes are lent, the call answers, whether there is a look-ahead or not
  pub answers : Passes A → (numbers : List ℕ) → TellsNeeds A.means numbers → (a : Result ℕ Refusal) (old out : List ℕ)
      → length (page A.means numbers) ≤ length old → PageOf A a old out
      → outcome_of a ≡ answered (length (page A.means numbers))
  -- so that 84,009 bytes are always enough
  pub enough : Passes A → (a : Result ℕ Refusal) (old out : List ℕ) → max_page ≤ length old → PageOf A a old out
      → (numbers : List ℕ) × Theorems A numbers (page A.means numbers) × (outcome_of a ≡ answered (length (page A.means numbers)))
  -- what stands at the front of the lent bytes is what the theorems above speak of
  pub written : (count : ℕ) (old out : List ℕ) → PageOf A (Ok count) old out → (numbers : List ℕ) × Theorems A numbers (take count out)
  -- it is the page of the numbers that the call for the needs writes
  pub of_needs : (count entries : ℕ) (old out old' needs : List ℕ) → PageOf A (Ok count) old out → NeedsOf A (Ok entries) old' needs
      → take count out ≡ page A.means (take entries needs)
  -- two calls answer the same and leave the same
  pub same : (a b : Result ℕ Refusal) (old out out' : List ℕ) → PageOf A a old out → PageOf A b old out'
      → (outcome_of a ≡ outcome_of b) × (out ≡ out')

-- They hold of everything that a call may ask, so of all plan bytes (plan/specs/Theorems, `proper`).
abbrev pub Met : Type 0
Met = (A : Asked) → Proper A → Calls A
