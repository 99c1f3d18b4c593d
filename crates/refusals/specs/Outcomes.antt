-- What a call answers in document 01's terms: a refusal by its number, or the call's values.
-- Assumes nothing.
use Rattle.std.specs.Prelude.{ℕ, ◌+◌, ◌≡◌}

pub data Outcome (A : Type 0) : Type 0 where
  refused : ℕ → Outcome A
  answered : A → Outcome A

-- What a call gives whose first refusal that applies has this number, 0 if none applies: it is refused so, and what it is lent is kept;
-- where none applies, it answers values of which P holds.
abbrev pub Gives : {A : Type 0} → ℕ → Type 0 → (A → Type 0) → Outcome A → Type 0
Gives refusal Kept P (refused r) = (r ≡ refusal) × ¬ (r ≡ 0) × Kept
Gives refusal Kept P (answered v) = (refusal ≡ 0) × P v

-- A refusal as one number for C: 65,536 plus its own.
abbrev pub refusing : ℕ → ℕ
refusing r = 65536 + r
