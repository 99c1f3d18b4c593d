-- The sizes of a plan (document 01, Plan bytes), and of a look-ahead; the marks beside needs.
-- Assumes nothing.
use Rattle.std.specs.Prelude.{ℕ, ◌-◌, ◌*◌, ◌/◌, ◌≤◌}
use Rattle.semiautomata.specs.Semiautomaton.{Semiautomaton, Within}

-- The most states, letters, lines.
abbrev pub max_states : ℕ
max_states = 64

abbrev pub max_letters : ℕ
max_letters = 32

abbrev pub max_lines : ℕ
max_lines = 4096

-- .. and successor sets: one for each state and letter.
abbrev pub max_sets : ℕ
max_sets = max_states * max_letters

-- n is from 1 to 64, m from 1 to 32, and nothing lies outside the states and letters.
pub record Sized (S : Semiautomaton) : Type 0 where
  pub n_low : 1 ≤ S.n
  pub n_high : S.n ≤ max_states
  pub m_low : 1 ≤ S.m
  pub m_high : S.m ≤ max_letters
  pub within : Within S

-- The most that a look-ahead of n states can be (003, Theorem 5), and of any plan.
abbrev pub most_ahead : ℕ → ℕ
most_ahead n = n * (n - 1) / 2

abbrev pub max_lookahead : ℕ
max_lookahead = 2016

-- Where a need stands, 65,535 says that there is none, and 65,534 that a critical set is empty or doesn't count (document 02, W-205).
abbrev pub endless : ℕ
endless = 65535

abbrev pub unmeasured : ℕ
unmeasured = 65534
