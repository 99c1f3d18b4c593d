-- What follows of what is printed: an input shows one text, and as soon as its plan is there it shows what the whole input shows; and the
-- page of a sample, to the byte. proofs/Theorems.antt has the proofs.
-- Assumes nothing.
use Rattle.std.specs.Prelude.{ℕ, ◌-◌, ◌≤◌, ◌≡◌, List, [], ◌∷◌, ◌++◌, length}
use Rattle.decimals.specs.Decimals.{blanks}
use Rattle.inputs.specs.Inputs.{wanted}
use Rattle.page.specs.Printing.{Shows}

-- A plan of eight stakes, two codes, starts 0 and 1 and nine lines, and two legs behind it (crates/page/stdin).
abbrev pub sample_input : List ℕ
sample_input =
    (1 ∷ 0 ∷ 8 ∷ 0 ∷ 2 ∷ 0 ∷ 2 ∷ 0 ∷ 9 ∷ 0 ∷ 16 ∷ 0 ∷ 18 ∷ 0 ∷ 45 ∷ 0 ∷ [])
    ++ (0 ∷ 1 ∷ [])
    ++ (0 ∷ 0 ∷ 2 ∷ 1 ∷ 0 ∷ 2 ∷ 2 ∷ 1 ∷ 3 ∷ 0 ∷ 1 ∷ 4 ∷ 4 ∷ 0 ∷ 4 ∷ 4 ∷ 0 ∷ 5 ∷ 5 ∷ 0 ∷ 5 ∷ 6 ∷ 0 ∷ 6 ∷ 6 ∷ 0 ∷ 7 ∷ [])
    ++ (0 ∷ 1 ∷ [])

-- Its page (crates/page/stdout): a state, a letter and a need by their characters, a bar, and blanks up to column 40.
abbrev pub shown_so : ℕ → ℕ → ℕ → List ℕ → List ℕ
shown_so state letter need bar =
    blanks 3 ++ (state ∷ []) ++ blanks 4 ++ (letter ∷ []) ++ blanks 6 ++ (need ∷ []) ++ blanks 1 ++ bar ++ blanks (23 - length bar) ++ (10 ∷ [])

abbrev pub sample_text : List ℕ
sample_text =
    -- `from           3 ##`
    (102 ∷ 114 ∷ 111 ∷ 109 ∷ []) ++ blanks 11 ++ (51 ∷ 32 ∷ 35 ∷ 35 ∷ []) ++ blanks 21 ++ (10 ∷ [])
    -- `   0    0      0 #` and so on
    ++ shown_so 48 48 48 (35 ∷ [])
    ++ shown_so 48 49 48 (35 ∷ [])
    ++ shown_so 49 48 48 (35 ∷ [])
    ++ shown_so 50 49 48 (35 ∷ [])
    -- `   4    0      - ##`
    ++ shown_so 52 48 45 (35 ∷ 35 ∷ [])
    ++ shown_so 53 48 48 (35 ∷ [])

-- The sample shows its seven lines.
abbrev pub SampleShown : Type 0
SampleShown = Shows sample_input sample_text

pub record Theorems (input : List ℕ) : Type 0 where
  -- an input shows one text
  pub unique : (a b : List ℕ) → Shows input a → Shows input b → a ≡ b
  -- where the plan is there whole, or it is seen that there is none, what comes later changes nothing
  pub behind : (rest text : List ℕ) → wanted input ≤ length input → Shows input text → Shows (input ++ rest) text
