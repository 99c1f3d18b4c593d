-- Rows of pairs of states: bit t of row s is the pair s and t. Pairs are put in, taken out, and two states are searched for.
-- Assumes nothing.
use Rattle.std.specs.Prelude.{ℕ, ◌≤◌, ◌<◌, Bool, true, ◌&&◌, ◌||◌, ◌≡◌, List, length, get_or, Option, None, Some}
use Rattle.std.specs.Bool.{xor}
use Rattle.bitset.specs.Sets.{any}
use Rattle.bitset.specs.Numbers.{has}

-- The pair s and t is in the rows.
abbrev pub pair : List ℕ → ℕ → ℕ → Bool
pair rows s t = has (get_or rows s 0) t

-- Each of the firsts is paired with each of the seconds, and no other pair is new.
pub record Put (firsts seconds : ℕ) (old new : List ℕ) : Type 0 where
  pub long : length new ≡ length old
  pub is : (s t : ℕ) → pair new s t ≡ (pair old s t || has firsts s && has seconds t)

-- In the rows below k, the pairs that one of the two has and not the other: the rows without the struck ones, where these are among them.
-- The other rows are kept.
pub record Without (old struck new : List ℕ) (k : ℕ) : Type 0 where
  pub long : length new ≡ length old
  pub is : (s t : ℕ) → s < k → pair new s t ≡ xor (pair old s t) (pair struck s t)
  pub kept : (s : ℕ) → k ≤ s → get_or new s 0 ≡ get_or old s 0

-- The set has each state that some row below k has.
pub record Union (rows : List ℕ) (set k : ℕ) : Type 0 where
  pub is : (t : ℕ) → has set t ≡ any k (λ s. pair rows s t)

-- Two different states below n are a pair of both rows, in the row of the higher.
pub record Common (n : ℕ) (live rival : List ℕ) (low high : ℕ) : Type 0 where
  pub order : low < high
  pub below : high < n
  pub lives : pair live high low ≡ true
  pub rivals : pair rival high low ≡ true

-- No two different states below k are a pair of both rows.
pub record Apart (live rival : List ℕ) (k : ℕ) : Type 0 where
  pub none : (high : ℕ) → high < k → (low : ℕ) → low < high → pair live high low ≡ true → ¬ (pair rival high low ≡ true)

-- What the search for two such states answers: them, or that there are none.
abbrev pub Searched : ℕ → List ℕ → List ℕ → Option (ℕ × ℕ) → Type 0
Searched n live rival (Some (low, high)) = Common n live rival low high
Searched n live rival None = Apart live rival n
