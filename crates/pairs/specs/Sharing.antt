-- Which pairs of states share words: of one letter more, of a number of letters, of every length. A pair is read in the row of its higher
-- state where the order matters.
-- Assumes nothing.
use Rattle.std.specs.Prelude.{ℕ, suc, ◌<◌, Bool, true, false, ◌&&◌, ◌↔◌, ◌≡◌, List, Option, None, Some, Result, Ok, Err}
use Rattle.bitset.specs.Sets.{any}
use Rattle.semiautomata.specs.Semiautomaton.{Semiautomaton}
use Rattle.semiautomata.specs.Predictability.{Share}
use Rattle.rows.specs.Rows.{pair, Common}
use Rattle.pairs.specs.declared.Step.{Step}
use Rattle.pairs.specs.declared.Endless.{Endless}

-- The letter a leads s and t on to r and u, a pair of the rows; some letter leads them on to some such pair.
pub record Leads (S : Semiautomaton) (rows : List ℕ) (s t a r u : ℕ) : Type 0 where
  pub first : S.edge s a r ≡ true
  pub second : S.edge t a u ≡ true
  pub lives : pair rows r u ≡ true

unfoldable pub leads : Semiautomaton → List ℕ → ℕ → ℕ → Bool
leads S rows s t = any S.m λ a. any S.n λ r. any S.n λ u. S.edge s a r && (S.edge t a u && pair rows r u)

-- What the search for such a letter answers: one, with the pair, or that there is none.
abbrev pub Led : Semiautomaton → List ℕ → ℕ → ℕ → Option Step → Type 0
Led S rows s t (Some r) = Leads S rows s t r.letter r.first r.second
Led S rows s t None = leads S rows s t ≡ false

-- LEVELS: the rows have exactly the pairs of states that share a word of j letters.
pub record Level (S : Semiautomaton) (j : ℕ) (rows : List ℕ) : Type 0 where
  pub is : (s t : ℕ) → s < S.n → t < S.n → (pair rows s t ≡ true) ↔ Share S j s t

-- .. that share a word of j letters, and none of more.
pub record LastLevel (S : Semiautomaton) (j : ℕ) (rows : List ℕ) : Type 0 where
  pub is : (s t : ℕ) → s < S.n → t < S.n → (pair rows s t ≡ true) ↔ (Share S j s t × ¬ Share S (suc j) s t)

-- RIVALS: two different states that are a pair of the rows share a word of j letters.
pub record Sharing (S : Semiautomaton) (rows : List ℕ) (j : ℕ) : Type 0 where
  pub low : ℕ
  pub high : ℕ
  pub order : low < high
  pub below : high < S.n
  pub paired : pair rows high low ≡ true
  pub shared : Share S j high low

-- k is the first number of letters with which no two of them do.
pub record Parted (S : Semiautomaton) (rows : List ℕ) (k : ℕ) : Type 0 where
  pub enough : ¬ Sharing S rows k
  pub least : (j : ℕ) → j < k → Sharing S rows j

-- The rows have exactly the pairs of states that share words of every length.
pub record Lasting (S : Semiautomaton) (rows : List ℕ) : Type 0 where
  pub share : (s t : ℕ) → s < S.n → t < S.n → pair rows s t ≡ true → (j : ℕ) → Share S j s t
  pub shared : (s t : ℕ) → s < S.n → t < S.n → ((j : ℕ) → Share S j s t) → pair rows s t ≡ true

-- What the rounds come to: the number of letters with which the rivals are parted, or some two of them that are among the pairs that last.
abbrev pub Settled : Semiautomaton → List ℕ → Result ℕ Endless → Type 0
Settled S rival (Ok rounds) = Parted S rival rounds
Settled S rival (Err e) = Lasting S e.live × Common S.n e.live rival e.low e.high
