-- Refusals in order: a call's checks are a list, and the first of them that applies is its refusal. The place in the list is the order; the
-- number is a name.
-- Assumes nothing.
use Rattle.std.specs.Prelude.{ℕ, Bool, true, cond, ◌&&◌, ◌≡◌, List, [], ◌∷◌, leb}

-- A refusal: its number, and whether it applies.
pub record Check : Type 0 where
  pub number : ℕ
  pub applies : Bool

-- The number of the first check of a list that applies; 0 if none does.
abbrev pub first_of : List Check → ℕ
first_of [] = 0
first_of (c ∷ cs) = cond c.applies c.number (first_of cs)

-- 9: a lent buffer is too short.
abbrev pub short : Bool → Check
short applies = record { number = 9; applies = applies }

-- x is a number from a to b
abbrev pub within : ℕ → ℕ → ℕ → Bool
within a b x = leb a x && leb x b

-- The numbers of a list are from 1 to b; of a list that is written down this computes.
abbrev pub numbered : ℕ → List Check → Bool
numbered b [] = true
numbered b (c ∷ cs) = within 1 b c.number && numbered b cs

abbrev pub Numbered : ℕ → List Check → Type 0
Numbered b cs = numbered b cs ≡ true
