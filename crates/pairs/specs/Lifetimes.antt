-- How long a pair of states lives: the number of letters from which on the two share no word. A number for each pair.
-- Assumes nothing.
use Rattle.std.specs.Prelude.{ℕ, ◌*◌, ◌<◌, true, ◌≡◌, List, length, get_or, replicate}
use Rattle.semiautomata.specs.Semiautomaton.{Semiautomaton}
use Rattle.semiautomata.specs.Predictability.{Share}
use Rattle.semiautomata.specs.Sizes.{max_states, endless}
use Rattle.semiautomata.specs.Successors.{place}
use Rattle.rows.specs.Rows.{pair}

-- The two share a word of each number of letters below this one; of so many letters they share none or, where it is 65,535, they share
-- words of every length.
pub record Lifetime (S : Semiautomaton) (s t letters : ℕ) : Type 0 where
  pub lives : (j : ℕ) → j < letters → Share S j s t
  pub ends : ¬ (letters ≡ endless) → ¬ Share S letters s t
  pub lasts : letters ≡ endless → (j : ℕ) → Share S j s t

-- Room for a number for each pair of states, those of one state in a row.
abbrev pub max_pairs : ℕ
max_pairs = max_states * max_states

abbrev pub lifetime : List ℕ → ℕ → ℕ → ℕ
lifetime numbers s t = get_or numbers (place max_states s t) 0

-- The numbers are the lifetimes of any two different states that are a pair of the rows, each read with the higher state first.
pub record Lifetimes (S : Semiautomaton) (rows numbers : List ℕ) : Type 0 where
  pub is : (high low : ℕ) → low < high → high < S.n → pair rows high low ≡ true → Lifetime S high low (lifetime numbers high low)

-- They are written where the numbers lent are as many as there are pairs and all 65,535; where they are not as many, they are kept.
abbrev pub Timed : Semiautomaton → List ℕ → List ℕ → List ℕ → Type 0
Timed S rows old numbers = (old ≡ replicate max_pairs endless → Lifetimes S rows numbers) × (¬ (length old ≡ max_pairs) → numbers ≡ old)
