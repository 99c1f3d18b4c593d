-- A semiautomaton by numbers: the set of initial states, and a list of successor sets, one for each state and letter.
-- Assumes nothing.
use Rattle.std.specs.Prelude.{ℕ, ◌+◌, ◌*◌, ◌^◌, ◌≤◌, ◌<◌, ◌&&◌, ◌≡◌, List, ltb, length, get_or}
use Rattle.bitset.specs.Numbers.{has}
use Rattle.semiautomata.specs.Semiautomaton.{Semiautomaton}
use Rattle.semiautomata.specs.Sizes.{max_states, max_letters}

-- the place of the states that letter a leads to from state q
abbrev pub place : ℕ → ℕ → ℕ → ℕ
place m q a = q * m + a

-- .. and these states, as a number
abbrev pub set_at : ℕ → List ℕ → ℕ → ℕ → ℕ
set_at m sets q a = get_or sets (place m q a) 0

abbrev pub successors : ℕ → ℕ → ℕ → List ℕ → Semiautomaton
successors n m starts sets = record {
  n = n;
  m = m;
  initial = has starts;
  edge = λ q a t. ltb q n && (ltb a m && has (set_at m sets q a) t);
}

-- The sets are sets of states below n: at most 64 states and 32 letters, a set for each state and letter, and no bit n or higher.
pub record Fit (n m : ℕ) (sets : List ℕ) : Type 0 where
  pub states : n ≤ max_states
  pub letters : m ≤ max_letters
  pub room : n * m ≤ length sets
  pub below : (i : ℕ) → i < n * m → get_or sets i 0 < 2 ^ n

-- Room for so many sets, all of them empty.
pub record Blank (size : ℕ) (sets : List ℕ) : Type 0 where
  pub long : length sets ≡ size
  pub zero : (i : ℕ) → get_or sets i 0 ≡ 0
