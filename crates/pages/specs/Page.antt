-- The page for the hut wall (document 02, W-206): the needs of W-205, a line to each set, column by column.
-- Assumes nothing.
use Rattle.std.specs.Prelude.{ℕ, ◌+◌, ◌*◌, min, cond, not, List, [], ◌∷◌, ◌++◌, eqb, length, get_or, replicate}
use Rattle.bitset.specs.Sets.{size}
use Rattle.slices.specs.Appending.{each}
use Rattle.decimals.specs.Decimals.{decimal, blanks, right, left}
use Rattle.semiautomata.specs.Semiautomaton.{Semiautomaton}
use Rattle.semiautomata.specs.Predictability.{Critical, initial, fork, member}
use Rattle.semiautomata.specs.Sizes.{endless, unmeasured, max_sets}
use Rattle.needs.specs.Needs.{place_of}

-- WHAT STANDS IN A LINE

-- In columns 1 to 4 the state (stake), and in columns 6 to 9 the letter (code); for the initial states (starts) the word `from`, and blanks.
abbrev pub state_text : Critical → List ℕ
state_text initial = 102 ∷ 114 ∷ 111 ∷ 109 ∷ []
state_text (fork q a) = decimal q

abbrev pub letter_text : Critical → List ℕ
letter_text initial = []
letter_text (fork q a) = decimal a

-- In columns 11 to 16 the need; a dash in column 16 for 65,535.
abbrev pub need_text : ℕ → List ℕ
need_text v = cond (eqb v endless) (45 ∷ []) (decimal v)

-- From column 18 to column 40 a hash sign for each state of the set, at most 23.
abbrev pub longest_bar : ℕ
longest_bar = 23

abbrev pub bar : ℕ → List ℕ
bar states = replicate (min longest_bar states) 35

-- Columns 1 to 9, with a blank in column 5; those from column 10 on, with a blank in columns 10 and 17, and a line feed behind column 40.
-- All are right-aligned but for the bar.
abbrev pub label : List ℕ → List ℕ → List ℕ
label state letter = right 4 state ++ blanks 1 ++ right 4 letter

abbrev pub tail : ℕ → ℕ → List ℕ
tail v states = blanks 1 ++ right 6 (need_text v) ++ blanks 1 ++ left longest_bar (bar states) ++ (10 ∷ [])

-- A line: both,
unfoldable pub line : (state letter : List ℕ) (v states : ℕ) → List ℕ
line state letter v states = label state letter ++ tail v states

-- .. of so many bytes.
abbrev pub page_line : ℕ
page_line = 41

-- THE LINES OF A PAGE

-- The line of a critical set of so many states that has v for its number.
abbrev pub line_of : Critical → ℕ → ℕ → List ℕ
line_of T v states = line (state_text T) (letter_text T) v states

-- What a page has of it: its line, and nothing where the number is 65,534.
abbrev pub shown_of : Critical → ℕ → ℕ → List ℕ
shown_of T v states = cond (eqb v unmeasured) [] (line_of T v states)

abbrev pub states_of : Semiautomaton → Critical → ℕ
states_of S T = size S.n (member S T)

abbrev pub text_of : Semiautomaton → List ℕ → Critical → List ℕ
text_of S numbers T = shown_of T (get_or numbers (place_of S T) 0) (states_of S T)

-- The page of numbers that tell the needs, in their order: first the initial states, then state by state and letter by letter.
unfoldable pub page : Semiautomaton → List ℕ → List ℕ
page S numbers = text_of S numbers initial ++ each S.n (λ q. each S.m (λ a. text_of S numbers (fork q a)))

-- How many of the numbers before a place have a line: those other than 65,534.
abbrev pub lines_before : List ℕ → ℕ → ℕ
lines_before numbers place = size place (λ i. not (eqb (get_or numbers i 0) unmeasured))

-- How many lines there are.
abbrev pub line_count : List ℕ → ℕ
line_count numbers = lines_before numbers (length numbers)

-- The most bytes of a page: each of 2,049 sets has a line.
abbrev pub max_page : ℕ
max_page = page_line * (max_sets + 1)
