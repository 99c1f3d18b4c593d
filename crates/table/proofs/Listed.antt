-- Lists whose numbers are given by their place: in one row, or in rows of m.
-- Assumes nothing.
use Prim.Native.Nat.{ℕ, zero, suc, ◌+◌, ◌*◌, ◌/◌, ◌%◌, ◌<◌}
use mathlib.Core.Path.{◌≡◌, refl, sym, ◌∙◌, ap}
use mathlib.Core.List.{List, map, flat_map}
use native.Mathlib.Omega.{arith}
use native.Mathlib.Nat.{suc-mul}
use lib.ListN.{length, get_or, length-append, get_or-append}
use lib.Seq.{ext_get_or, get_or-append-add}
use Rattle.semiautomata.specs.Lists.{range}
use Rattle.semiautomata.specs.Successors.{place}
use Rattle.semiautomata.proofs.BySets.{state_lt, letter_lt, place_of_lem}

module _ (f : ℕ → ℕ) where
  pub listed_length : (p c : ℕ) → length (map f (range p c)) ≡ c
  listed_length p zero = refl
  listed_length p (suc c) = ap suc (listed_length (suc p) c)

  pub listed_at : (p c i j : ℕ) → i < c → p + i ≡ j → get_or (map f (range p c)) i 0 ≡ f j
  listed_at p zero i j h e = absurd (omega arith)
  listed_at p (suc c) zero j h e = let d : p ≡ j = omega arith in ap f d
  listed_at p (suc c) (suc i) j h e = listed_at (suc p) c i j (omega arith) (omega arith)

  -- a list with these numbers is this list
  pub listed_are : (c : ℕ) (l : List ℕ) → length l ≡ c → ((i : ℕ) → i < c → get_or l i 0 ≡ f i) → l ≡ map f (range 0 c)
  listed_are c l e at = ext_get_or 0 _ _ (e ∙ sym (listed_length 0 c)) λ i h.
      let g : i < c = rw e at h in at i g ∙ sym (listed_at 0 c i i g (omega arith))

module _ (f : ℕ → ℕ → ℕ) (m : ℕ) where
  abbrev rows : ℕ → ℕ → List ℕ
  rows p c = flat_map (λ q. map (f q) (range 0 m)) (range p c)

  pub rows_length : (p c : ℕ) → length (rows p c) ≡ c * m
  unfolding flat_map
  rows_length p zero = omega arith
  rows_length p (suc c) = rw (length-append, listed_length (f p) 0 m, rows_length (suc p) c, suc-mul) (omega arith)

  pub rows_at : (p c q a j : ℕ) → q < c → a < m → p + q ≡ j → get_or (rows p c) (place m q a) 0 ≡ f j a
  unfolding flat_map
  rows_at p zero q a j h g e = absurd (omega arith)
  rows_at p (suc c) zero a j h g e =
      let d : p ≡ j = omega arith in
      let i : place m zero a ≡ a = omega arith in
      rw (i, d) (get_or-append (map (f j) (range 0 m)) _ 0 a (rw (listed_length (f j) 0 m) g) ∙ listed_at (f j) 0 m a a g (omega arith))
  rows_at p (suc c) (suc q) a j h g e =
      let i : place m (suc q) a ≡ length (map (f p) (range 0 m)) + place m q a = rw (listed_length (f p) 0 m, suc-mul) (omega arith) in
      rw i (get_or-append-add (map (f p) (range 0 m)) _ (place m q a) 0 ∙ rows_at (suc p) c q a j (omega arith) g (omega arith))

  pub rows_are : (n : ℕ) (l : List ℕ) → length l ≡ n * m → ((q a : ℕ) → q < n → a < m → get_or l (place m q a) 0 ≡ f q a) → l ≡ rows 0 n
  rows_are n l e at = ext_get_or 0 _ _ (e ∙ sym (rows_length 0 n)) λ i h.
      let g : i < n * m = rw e at h in
      let hq = state_lt n m i g in
      let ha = letter_lt n m i g in
      rw (← place_of_lem n m i g) (at (i / m) (i % m) hq ha ∙ sym (rows_at 0 n (i / m) (i % m) (i / m) hq ha (omega arith)))
