-- The numbers of critical sets, and fork sets whose numbers are written. What the inner functions promise each other.
-- Assumes nothing.
use Rattle.std.specs.Prelude.{ℕ, ◌+◌, ◌≤◌, ◌<◌, Bool, true, false, ◌⊎◌, ◌≡◌, List, length, get_or}
use Rattle.bitset.specs.Numbers.{has}
use Rattle.semiautomata.specs.Sizes.{unmeasured}
use Rattle.semiautomata.specs.Successors.{place, set_at}
use Rattle.needs.specs.inner.Longest.{LongestLived}

-- the number of a set that counts and is not empty, and of another
pub record Entered (numbers : List ℕ) (set : ℕ) (counts : Bool) (r : ℕ) : Type 0 where
  pub measured : counts ≡ true → ¬ (set ≡ 0) → LongestLived numbers (has set) r
  pub idle : (counts ≡ false) ⊎ (set ≡ 0) → r ≡ unmeasured

-- the fork sets from one place to another have their numbers, each behind its place; the other numbers are kept
pub record ForksEntered (numbers : List ℕ) (m : ℕ) (sets : List ℕ) (reached from to : ℕ) (old needs : List ℕ) : Type 0 where
  pub long : length needs ≡ length old
  pub entered : (q a : ℕ) → a < m → from ≤ place m q a → place m q a < to
      → Entered numbers (set_at m sets q a) (has reached q) (get_or needs (place m q a + 1) 0)
  pub kept : (i : ℕ) → (i ≤ from) ⊎ (to < i) → get_or needs i 0 ≡ get_or old i 0
