-- What a call asks of plan bytes: all that preparing, counting, the check of a claim and the needs know of them; and its refusal where it
-- looks at its lent buffers next.
-- Assumes nothing.
use Rattle.std.specs.Prelude.{ℕ, Bool, ◌≡◌, List, [], ◌∷◌, ◌++◌}
use Rattle.semiautomata.specs.Semiautomaton.{Semiautomaton}
use Rattle.semiautomata.specs.Sizes.{Sized}
use Rattle.refusals.specs.Checks.{Check, first_of, short, Numbered}
use Rattle.refusals.specs.Groups.{last_refusal}

-- Its checks in order, and the semiautomaton that is meant where none of them applies.
pub record Asked : Type 0 where
  pub checks : List Check
  pub means : Semiautomaton

-- The number of the first check that applies, 0 if none does.
unfoldable pub refusal_of : Asked → ℕ
refusal_of A = first_of A.checks

-- The same of a call that looks at its lent buffers next: what is asked, and then 9.
unfoldable pub refusal_with : Asked → Bool → ℕ
refusal_with A applies = first_of (A.checks ++ (short applies ∷ []))

-- No check applies.
abbrev pub Passes : Asked → Type 0
Passes A = refusal_of A ≡ 0

-- What every call counts on of what it asks: the checks have numbers, 15 is none of them, and what passes them has the sizes of a plan.
pub record Proper (A : Asked) : Type 0 where
  pub numbered : Numbered last_refusal A.checks
  pub other : ¬ (refusal_of A ≡ 15)
  pub sized : Passes A → Sized A.means
