-- A table of successor sets turned round.
-- Assumes nothing.
use Rattle.std.specs.Prelude.{ℕ, ◌<◌, ◌≡◌, List}
use Rattle.bitset.specs.Numbers.{has, set_of}
use Rattle.semiautomata.specs.Successors.{set_at}
use Rattle.semiautomata.specs.declared.successors.Successors.{Successors}

-- The table turned round: at each state and letter the states that the letter leads there.
pub record Turned (x : Successors) (back : List ℕ) : Type 0 where
  pub is : (r a : ℕ) → a < x.m → set_at x.m back r a ≡ set_of x.n (λ s. has (set_at x.m x.sets.now s a) r)
