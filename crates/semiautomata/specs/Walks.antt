-- Words walked on a semiautomaton (document 01, Walks; 003, Theorem 3): what can be walked, where words lead, and the possible states at
-- each position.
-- Assumes nothing.
use Rattle.std.specs.Prelude.{ℕ, zero, suc, ◌≤◌, Bool, true, cond, ◌&&◌, ◌≡◌, List, [], ◌∷◌, length, take, drop}
use Rattle.bitset.specs.Sets.{any}
use Rattle.semiautomata.specs.Such.{TwoSuch}
use Rattle.semiautomata.specs.Semiautomaton.{Semiautomaton, Path, Spells}

-- Some state of the set X can walk the word.
pub record Walkable (S : Semiautomaton) (X : ℕ → Bool) (w : List ℕ) : Type 0 where
  pub start : ℕ
  pub from_it : X start ≡ true
  pub spells : Spells S start w

-- The word is on the plan (003: in the language of S): some initial state can walk it.
abbrev pub OnPlan : Semiautomaton → List ℕ → Type 0
OnPlan S w = Walkable S S.initial w

-- The word leads to t from some state of the set X.
pub record LedTo (S : Semiautomaton) (X : ℕ → Bool) (w : List ℕ) (t : ℕ) : Type 0 where
  pub start : ℕ
  pub from_it : X start ≡ true
  pub path : Path S start w t

-- g is the length of the longest beginning of w that is on the plan.
pub record Longest (S : Semiautomaton) (w : List ℕ) (g : ℕ) : Type 0 where
  pub fits : g ≤ length w
  pub walked : OnPlan S (take g w)
  pub most : (h : ℕ) → h ≤ length w → OnPlan S (take h w) → h ≤ g

-- x is a possible state at position i of the word w walked from the set X: reached from X by the first i letters, and from it the other
-- letters of w can be walked. A record's letters are walked from its base.
pub record Possible (S : Semiautomaton) (X : ℕ → Bool) (w : List ℕ) (i x : ℕ) : Type 0 where
  pub start : ℕ
  pub from_it : X start ≡ true
  pub before : Path S start (take i w) x
  pub after : Spells S x (drop i w)

-- Two or more states are possible at position i of w walked from X.
abbrev pub TwoPossible : Semiautomaton → (ℕ → Bool) → List ℕ → ℕ → Type 0
TwoPossible S X w i = TwoSuch (Possible S X w i)

-- x is a possible state at position i of the whole walk w (Theorem 3): with g the length of its longest beginning on the plan, reached
-- from an initial state by the first i letters, and from it letters i + 1 to g can be walked.
pub record PossibleAt (S : Semiautomaton) (w : List ℕ) (i x : ℕ) : Type 0 where
  pub g : ℕ
  pub longest : Longest S w g
  pub fits : i ≤ g
  pub is : Possible S S.initial (take g w) i x

-- x is the one possible state at position i of the whole walk w.
pub record Only (S : Semiautomaton) (w : List ℕ) (i x : ℕ) : Type 0 where
  pub is : PossibleAt S w i x
  pub only : (y : ℕ) → PossibleAt S w i y → y ≡ x

-- THE SAME AS TESTS THAT COMPUTE

-- the word is in R(s)
unfoldable pub spells : Semiautomaton → List ℕ → ℕ → Bool
spells S [] s = true
spells S (a ∷ w) s = any S.n (λ r. S.edge s a r && spells S w r)

-- the states that the letter leads to from the set X
unfoldable pub step : Semiautomaton → (ℕ → Bool) → ℕ → ℕ → Bool
step S X a t = any S.n (λ s. X s && S.edge s a t)

-- the states that the word leads to from the set X
abbrev pub reach : Semiautomaton → (ℕ → Bool) → List ℕ → ℕ → Bool
reach S X [] = X
reach S X (a ∷ w) = reach S (step S X a) w

-- the states of X that can walk the word
abbrev pub survivors : Semiautomaton → (ℕ → Bool) → List ℕ → ℕ → Bool
survivors S X w s = X s && spells S w s

unfoldable pub walkable : Semiautomaton → (ℕ → Bool) → List ℕ → Bool
walkable S X w = any S.n (survivors S X w)

unfoldable pub possible : Semiautomaton → (ℕ → Bool) → List ℕ → ℕ → ℕ → Bool
possible S X w i x = reach S X (take i w) x && spells S (drop i w) x

-- the greatest number up to N that passes, 0 if none does
unfoldable pub greatest : (ℕ → Bool) → ℕ → ℕ
greatest p zero = zero
greatest p (suc N) = cond (p (suc N)) (suc N) (greatest p N)

unfoldable pub longest : Semiautomaton → List ℕ → ℕ
longest S w = greatest (λ g. walkable S S.initial (take g w)) (length w)
