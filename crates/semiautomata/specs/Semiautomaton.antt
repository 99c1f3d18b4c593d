-- Semiautomata (003, section 2): document 01's plan, of stakes, codes, starts and lines.
-- Assumes nothing.
use Rattle.std.specs.Prelude.{ℕ, ◌<◌, Bool, true, ◌≡◌, List, [], ◌∷◌}

-- States 0 to n - 1 (stakes), letters 0 to m - 1 (codes), the initial states (starts) and the edges from, letter, to (lines).
pub record Semiautomaton : Type 0 where
  pub n : ℕ
  pub m : ℕ
  pub initial : ℕ → Bool
  pub edge : ℕ → ℕ → ℕ → Bool

-- No initial state and no edge lies outside the n states and m letters.
pub record Within (S : Semiautomaton) : Type 0 where
  pub initial_lt : (s : ℕ) → S.initial s ≡ true → s < S.n
  pub from_lt : (s a t : ℕ) → S.edge s a t ≡ true → s < S.n
  pub letter_lt : (s a t : ℕ) → S.edge s a t ≡ true → a < S.m
  pub to_lt : (s a t : ℕ) → S.edge s a t ≡ true → t < S.n

-- A path from s to t that is labelled by the word w.
abbrev pub Path : Semiautomaton → ℕ → List ℕ → ℕ → Type 0
Path S s [] t = s ≡ t
Path S s (a ∷ w) t = (r : ℕ) × (S.edge s a r ≡ true) × Path S r w t

-- w is in R(s): it labels a path that begins at s.
abbrev pub Spells : Semiautomaton → ℕ → List ℕ → Type 0
Spells S s w = (t : ℕ) × Path S s w t

-- Some word leads to q from an initial state (003: q is accessible).
pub record Accessible (S : Semiautomaton) (q : ℕ) : Type 0 where
  pub start : ℕ
  pub from_it : S.initial start ≡ true
  pub word : List ℕ
  pub path : Path S start word q

-- Every state of the set X is accessible.
abbrev pub Reached : Semiautomaton → (ℕ → Bool) → Type 0
Reached S X = (s : ℕ) → X s ≡ true → Accessible S s

-- S has no initial state and no edge that L has not.
pub record Sub (S L : Semiautomaton) : Type 0 where
  pub initial_in : (s : ℕ) → S.initial s ≡ true → L.initial s ≡ true
  pub edge_in : (s a t : ℕ) → S.edge s a t ≡ true → L.edge s a t ≡ true
