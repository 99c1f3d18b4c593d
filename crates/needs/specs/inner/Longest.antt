-- The longest that two states live, by a number for each pair. What the inner functions promise each other.
-- Assumes nothing.
use Rattle.std.specs.Prelude.{ℕ, ◌≤◌, ◌<◌, Bool, true, ◌⊎◌, ◌≡◌, List}
use Rattle.pairs.specs.Lifetimes.{lifetime}
use Rattle.semiautomata.specs.Sizes.{endless}

-- s and t are a pair of P and live for so many letters
pub record Lives (numbers : List ℕ) (P : ℕ → ℕ → Bool) (letters : ℕ) : Type 0 where
  pub s : ℕ
  pub t : ℕ
  pub paired : P s t ≡ true
  pub is : lifetime numbers s t ≡ letters

-- r is the longest that a pair of P lives, or what was longest before
pub record Most (numbers : List ℕ) (P : ℕ → ℕ → Bool) (before r : ℕ) : Type 0 where
  pub kept : before ≤ r
  pub all : (s t : ℕ) → P s t ≡ true → lifetime numbers s t ≤ r
  pub some : (r ≡ before) ⊎ Lives numbers P r

-- r is the longest that two different states of the set X live, the higher first; 0 if there are no two
pub record LongestLived (numbers : List ℕ) (X : ℕ → Bool) (r : ℕ) : Type 0 where
  pub few : r ≤ endless
  pub all : ¬ (r ≡ endless) → (s t : ℕ) → X s ≡ true → X t ≡ true → t < s → lifetime numbers s t ≤ r
  pub some : (r ≡ 0) ⊎ ((s : ℕ) × (t : ℕ) × (X s ≡ true) × (X t ≡ true) × (t < s) × (lifetime numbers s t ≡ r))
