-- What joining a set at places promises to pairing up and to turning the table round.
-- Assumes nothing.
use Rattle.std.specs.Prelude.{ℕ, ◌<◌, Bool, ◌&&◌, ◌||◌, ◌≡◌, List, eqb, length}
use Rattle.semiautomata.specs.Successors.{set_at}
use Rattle.bitset.specs.Numbers.{has}

-- the seconds are joined to what stands at the place `at` of each of the states of X
pub record JoinedAt (width at : ℕ) (X : ℕ → Bool) (seconds : ℕ) (old new : List ℕ) : Type 0 where
  pub long : length new ≡ length old
  pub is : (s b t : ℕ) → b < width
      → has (set_at width new s b) t ≡ (has (set_at width old s b) t || (eqb at b && X s) && has seconds t)
