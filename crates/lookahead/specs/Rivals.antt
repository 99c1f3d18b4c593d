-- Rivals: two different states of one critical set that counts, as rows of pairs.
-- Assumes nothing.
use Rattle.std.specs.Prelude.{ℕ, true, ◌≡◌, List}
use Rattle.semiautomata.specs.Semiautomaton.{Semiautomaton}
use Rattle.semiautomata.specs.Predictability.{Critical, member, Counts}
use Rattle.rows.specs.Rows.{pair}

-- Some critical set that counts has both s and t
pub record Together (S : Semiautomaton) (s t : ℕ) : Type 0 where
  pub set : Critical
  pub counts : Counts S set
  pub left : member S set s ≡ true
  pub right : member S set t ≡ true

-- Two different states are a pair of the rows exactly if they are together in some critical set that counts
pub record Rivalry (S : Semiautomaton) (rows : List ℕ) : Type 0 where
  pub from : (s t : ℕ) → ¬ (s ≡ t) → pair rows s t ≡ true → Together S s t
  pub into : (s t : ℕ) → ¬ (s ≡ t) → Together S s t → pair rows s t ≡ true
