-- Laws of a semiautomaton by numbers.
-- Assumes nothing.
use Prim.Native.Nat.{ℕ, zero, suc, ◌*◌, ◌/◌, ◌%◌, ◌^◌, ◌<◌}
use mathlib.Core.Bool.{true}
use mathlib.Core.Path.{◌≡◌, sym, ◌∙◌, fun_ext}
use mathlib.Core.List.{List}
use native.Mathlib.Omega.{arith}
use native.Mathlib.Nat.{mul-le-mul_right, mod-lt, div-add-mod', div-lt_iff_lt-mul}
use lib.Dec.{ltb}
use lib.ListN.{get_or}
use borrow.Author.Tests.{ltb-true, lt-ltb}
use Rattle.bitset.specs.Numbers.{has}
use Rattle.bitset.proofs.Tests.{and_out, same_test}
use Rattle.bitset.proofs.Bits.{has_lt}
use Rattle.semiautomata.specs.Semiautomaton.{Semiautomaton, Within}
use Rattle.semiautomata.specs.Successors.{place, successors, Fit}

-- a place lies among the n × m sets
pub place_lt : (n m q a : ℕ) → q < n → a < m → place m q a < n * m
place_lt n m q a h g = omega (arith, mul-le-mul_right m h)

-- the state and the letter of a place
module _ (n m i : ℕ) (h : i < n * m) where
  pub some_letter : 0 < m
  some_letter = go m h
    where
      go : (m : ℕ) → i < n * m → 0 < m
      go zero h = absurd (omega arith)
      go (suc m) h = omega arith

  pub state_lt : i / m < n
  state_lt = (div-lt_iff_lt-mul some_letter).1 h

  pub letter_lt : i % m < m
  letter_lt = mod-lt i some_letter

  pub place_of_lem : place m (i / m) (i % m) ≡ i
  place_of_lem = div-add-mod' i m

module _ (n m starts : ℕ) (sets : List ℕ) where
  -- an edge of them is a bit of the set at its place
  pub edge_out : (q a t : ℕ) → (successors n m starts sets).edge q a t ≡ true
      → (q < n) × (a < m) × (has (get_or sets (place m q a) 0) t ≡ true)
  edge_out q a t e =
      let (h, e) = and_out (ltb q n) _ e in
      let (g, e) = and_out (ltb a m) _ e in
      (ltb-true q n h, ltb-true a m g, e)

  pub edge_is : (q a t : ℕ) → q < n → a < m → (successors n m starts sets).edge q a t ≡ has (get_or sets (place m q a) 0) t
  edge_is q a t h g = rw (lt-ltb q n h, lt-ltb a m g)

  pub fit_within : Fit n m sets → starts < 2 ^ n → Within (successors n m starts sets)
  fit_within f h = record {
    initial_lt = λ s e. has_lt n starts s h e;
    from_lt = λ s a t e. (edge_out s a t e).0;
    letter_lt = λ s a t e. (edge_out s a t e).1;
    to_lt = λ s a t e. let (h, g, e) = edge_out s a t e in
        has_lt n (get_or sets (place m s a) 0) t (f.below (place m s a) (place_lt n m s a h g)) e;
  }

-- numbers that hold the sets of S, which lies within n states and m letters, are S
pub successors_are : (S : Semiautomaton) → Within S → (starts : ℕ) (sets : List ℕ)
    → ((s : ℕ) → has starts s ≡ S.initial s)
    → ((q a t : ℕ) → q < S.n → a < S.m → has (get_or sets (place S.m q a) 0) t ≡ S.edge q a t)
    → successors S.n S.m starts sets ≡ S
successors_are S W starts sets initial edge =
    λ i. record { n = S.n; m = S.m; initial = fun_ext initial i; edge = fun_ext (λ q. fun_ext (λ a. fun_ext (λ t. same q a t))) i }
  where
    same : (q a t : ℕ) → (successors S.n S.m starts sets).edge q a t ≡ S.edge q a t
    same q a t = same_test _ _
        (λ e. let (h, g, e) = edge_out S.n S.m starts sets q a t e in sym (edge q a t h g) ∙ e)
        (λ e. let h = W.from_lt q a t e in let g = W.letter_lt q a t e in edge_is S.n S.m starts sets q a t h g
        ∙ edge q a t h g ∙ e)
