-- Outcomes in numbers, as C gets them (include/gawherino.h): one number, a value below 65,536 or 65,536 plus the refusal, and further
-- values, which go to the front of a lent slice.
-- Assumes nothing.
use Rattle.std.specs.Prelude.{ℕ, ◌≤◌, ◌<◌, true, ◌≡◌, List, [], ◌∷◌, ◌++◌, length, drop, Option, None, Some}
use Rattle.refusals.specs.Checks.{Check, first_of, short}
use Rattle.refusals.specs.Groups.{last_refusal}
use Rattle.refusals.specs.Outcomes.{Outcome, refused, answered, refusing}
use Rattle.refusals.specs.declared.Group.{Group}
use Rattle.refusals.specs.declared.Group.TheVariants.{Author, Caller, Logger}

pub record Numbers : Type 0 where
  pub first : ℕ
  pub further : List ℕ

abbrev pub valued : ℕ → List ℕ → Numbers
valued first further = record { first = first; further = further }

-- A refusal has no further values; each call says how its values are numbered.
abbrev pub in_numbers : {A : Type 0} → (A → Numbers) → Outcome A → Numbers
in_numbers values (refused r) = valued (refusing r) []
in_numbers values (answered v) = values v

-- HOW A CALL PASSES THEM ON

-- The first is what is answered, and the further values stand at the front of the slice lent for them, which keeps its rest.
pub record Passed (a : Numbers) (r : ℕ) (old more : List ℕ) : Type 0 where
  pub answered : r ≡ a.first
  pub written : more ≡ a.further ++ drop (length a.further) old

-- Refused for want of room for further values: the first refusal that applies of those before 9, or 9.
abbrev pub no_room : List Check → ℕ
no_room before = refusing (first_of (before ++ (short true ∷ [])))

-- What a call gives that may have so many further values: with room for them the numbers of an answer that meets the promise of the
-- call it stands for; else it is refused, and all that it is lent is kept.
pub data PassesOn {A : Type 0} (numbers : A → Numbers) (room : ℕ) (before : List Check) (Meets : A → Type 0) (Kept : Type 0) (r : ℕ)
    (old more : List ℕ) : Type 0 where
  answers : room ≤ length old → (a : A) → Meets a → Passed (numbers a) r old more → PassesOn numbers room before Meets Kept r old more
  refuses : length old < room → r ≡ no_room before → more ≡ old → Kept → PassesOn numbers room before Meets Kept r old more

-- WHAT IS ANSWERED: a value below 65,536, or 65,536 plus the number of a refusal.

pub data Number (r : ℕ) : Type 0 where
  value : r < 65536 → Number r
  refusal : (number : ℕ) → 1 ≤ number → number ≤ last_refusal → r ≡ refusing number → Number r

-- WHO CAN CAUSE A REFUSAL

abbrev pub group_number : Option Group → ℕ
group_number (Some Author) = 1
group_number (Some Caller) = 2
group_number (Some Logger) = 3
group_number None = 0
