-- Numbers as they are printed, and text in columns.
-- Assumes nothing.
use Rattle.std.specs.Prelude.{ℕ, zero, suc, ◌+◌, ◌-◌, ◌/◌, ◌%◌, cond, ◌≡◌, List, [], ◌∷◌, ◌++◌, ltb, length, take, replicate}

-- The decimal digits of x: those of x / 10, unless x is below 10, and then the last digit. The count c only bounds how many stand in front
-- of the last.
unfoldable pub digits : ℕ → ℕ → List ℕ
digits zero x = (48 + x % 10) ∷ []
digits (suc c) x = cond (ltb x 10) [] (digits c (x / 10)) ++ ((48 + x % 10) ∷ [])

-- A number as it is printed: x has at most x digits in front of its last, so that x itself is bound enough.
unfoldable pub decimal : ℕ → List ℕ
decimal x = digits x x

-- Blank columns; text in so many of them, right-aligned or left-aligned. Text that is too long is not cut.
abbrev pub blanks : ℕ → List ℕ
blanks count = replicate count 32

unfoldable pub right : ℕ → List ℕ → List ℕ
right columns text = blanks (columns - length text) ++ text

unfoldable pub left : ℕ → List ℕ → List ℕ
left columns text = text ++ blanks (columns - length text)

-- The number is put at the right of columns that keep what stands in front of it; r is the place of its first digit.
pub record RightAligned (old : List ℕ) (x r : ℕ) (columns : List ℕ) : Type 0 where
  pub first : r + length (decimal x) ≡ length old
  pub is : columns ≡ take r old ++ decimal x
