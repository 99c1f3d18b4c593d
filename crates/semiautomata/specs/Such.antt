-- Numbers of which something holds: the least of them, and two different ones.
-- Assumes nothing.
use Rattle.std.specs.Prelude.{ℕ, ◌≤◌, ◌≡◌}

-- k is the least number such that Q holds of it.
pub record LeastSuch (Q : ℕ → Type 0) (k : ℕ) : Type 0 where
  pub enough : Q k
  pub least : (j : ℕ) → Q j → k ≤ j

-- P holds of two or more numbers.
pub record TwoSuch (P : ℕ → Type 0) : Type 0 where
  pub x : ℕ
  pub y : ℕ
  pub differ : ¬ (x ≡ y)
  pub one : P x
  pub other : P y
