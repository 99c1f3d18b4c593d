-- Look-ahead words (003, Definition 2; document 01, Verdict on a look-ahead word): what a word tells of the states of a set X.
-- Assumes nothing.
use Rattle.std.specs.Prelude.{ℕ, ◌<◌, Bool, true, not, ◌&&◌, ◌≡◌, List, [], ◌∷◌, ◌++◌, eqb, ltb, length, take}
use Rattle.bitset.specs.Sets.{any, size}
use Rattle.semiautomata.specs.Semiautomaton.{Semiautomaton, Spells}
use Rattle.semiautomata.specs.Walks.{spells, survivors}

-- t is a state of X with w in R(t).
pub record Survives (S : Semiautomaton) (X : ℕ → Bool) (w : List ℕ) (t : ℕ) : Type 0 where
  pub from_it : X t ≡ true
  pub spells : Spells S t w

-- w is a selector in X: exactly one state of X survives it.
pub record Selector (S : Semiautomaton) (X : ℕ → Bool) (w : List ℕ) : Type 0 where
  pub state : ℕ
  pub survives : Survives S X w state
  pub only : (u : ℕ) → Survives S X w u → u ≡ state

-- w is a minimal selector in X: a selector of which no shorter prefix is one.
pub record MinimalSelector (S : Semiautomaton) (X : ℕ → Bool) (w : List ℕ) : Type 0 where
  pub selector : Selector S X w
  pub minimal : (i : ℕ) → i < length w → ¬ Selector S X (take i w)

-- w is a maximal nonselector of t in X: t survives it, so does another state of X, and no longer word that begins with w is in R(t).
pub record MaximalNonselector (S : Semiautomaton) (X : ℕ → Bool) (w : List ℕ) (t : ℕ) : Type 0 where
  pub survives : Survives S X w t
  pub other : ℕ
  pub also : Survives S X w other
  pub differ : ¬ (other ≡ t)
  pub maximal : (a : ℕ) (v : List ℕ) → ¬ Spells S t (w ++ (a ∷ v))

-- THE SAME AS TESTS THAT COMPUTE

unfoldable pub selector : Semiautomaton → (ℕ → Bool) → List ℕ → Bool
selector S X w = eqb (size S.n (survivors S X w)) 1

unfoldable pub minimal_selector : Semiautomaton → (ℕ → Bool) → List ℕ → Bool
minimal_selector S X w = selector S X w && not (any (length w) (λ i. selector S X (take i w)))

unfoldable pub maximal_nonselector : Semiautomaton → (ℕ → Bool) → List ℕ → ℕ → Bool
maximal_nonselector S X w t =
    survivors S X w t && (ltb 1 (size S.n (survivors S X w)) && not (any S.m (λ a. spells S (w ++ (a ∷ [])) t)))
