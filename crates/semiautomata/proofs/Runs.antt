-- A path as a run: the state after i letters as a function of i.
-- Assumes nothing.
use Prim.Native.Nat.{ℕ, zero, suc, ◌+◌, ◌≤◌, ◌<◌}
use mathlib.Core.Bool.{true}
use mathlib.Core.Path.{◌≡◌, refl, ap}
use mathlib.Core.List.{List, [], ◌∷◌}
use native.Mathlib.Omega.{arith}
use lib.ListN.{length, get_or}
use Rattle.semiautomata.specs.Semiautomaton.{Semiautomaton, Within, Path}

-- the d letters from place i on
abbrev pub spell : (ℕ → ℕ) → ℕ → ℕ → List ℕ
spell c i zero = []
spell c i (suc d) = c i ∷ spell c (suc i) d

pub length_spell : (c : ℕ → ℕ) (i d : ℕ) → length (spell c i d) ≡ d
length_spell c i zero = refl
length_spell c i (suc d) = ap suc (length_spell c (suc i) d)

module _ (S : Semiautomaton) where
  -- f runs through L letters of c
  abbrev pub Run : ℕ → (ℕ → ℕ) → (ℕ → ℕ) → Type 0
  Run L c f = (i : ℕ) → i < L → S.edge (f i) (c i) (f (suc i)) ≡ true

  -- the states of a path
  abbrev pub trace : (w : List ℕ) (s t : ℕ) → Path S s w t → ℕ → ℕ
  trace w s t p zero = s
  trace [] s t p (suc i) = s
  trace (a ∷ w) s t p (suc i) = trace w p.0 t p.2 i

  pub trace_run : (w : List ℕ) (s t : ℕ) (p : Path S s w t) → Run (length w) (λ i. get_or w i 0) (trace w s t p)
  trace_run [] s t p i l = absurd (omega arith)
  trace_run (a ∷ w) s t p zero l = p.1
  trace_run (a ∷ w) s t p (suc i) l = trace_run w p.0 t p.2 i (omega arith)

  pub run_path : (L : ℕ) (c f : ℕ → ℕ) → Run L c f → (i d k : ℕ) → i + d ≡ k → k ≤ L → Path S (f i) (spell c i d) (f k)
  run_path L c f r i zero k e h = ap f (omega arith)
  run_path L c f r i (suc d) k e h = (f (suc i), r i (omega arith), run_path L c f r (suc i) d k (omega arith) h)

  -- every state of a run is a state of S
  pub run_lt : Within S → (L : ℕ) (c f : ℕ → ℕ) → Run L c f → f 0 < S.n → (i : ℕ) → i ≤ L → f i < S.n
  run_lt W L c f r h zero k = h
  run_lt W L c f r h (suc i) k = W.to_lt (f i) (c i) (f (suc i)) (r i k)
