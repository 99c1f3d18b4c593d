-- The verdict on a look-ahead word by the number of survivors: which words are minimal selectors and maximal nonselectors.
-- Assumes nothing.
use Rattle.std.specs.List.{IsLastAndRest}
use Rattle.std.proofs.lemmas.List.{take_at}
use Prim.Native.Nat.{ℕ, zero, suc, ◌-◌, ◌≤◌, ◌<◌}
use mathlib.Core.Bool.{Bool, true, false, not, ◌&&◌, and-false}
use mathlib.Core.Path.{◌≡◌, refl, sym, ◌∙◌}
use mathlib.Core.List.{List, [], ◌∷◌}
use native.Mathlib.Omega.{arith}
use lib.Count.{ones}
use lib.Dec.{eqb}
use lib.ListN.{length, take}
use lib.Pow.{pow_pos}
use lib.Seq.{take-take}
use borrow.Author.Tests.{eqb-true, eq-eqb, ne_eqb, lt-ltb, le-ltb}
use Rattle.bitset.specs.Sets.{any, size}
use Rattle.bitset.specs.Numbers.{has, set_of}
use Rattle.bitset.proofs.Tests.{and_in, and_out, same_test}
use Rattle.bitset.proofs.Below.{any_in, with_any, size_sole, sole_size}
use Rattle.bitset.proofs.Bits.{has_empty, has_set_of, is_set_of, set_of_cong}
use Rattle.semiautomata.specs.Semiautomaton.{Semiautomaton}
use Rattle.semiautomata.specs.Walks.{spells, survivors}
use Rattle.semiautomata.specs.Selectors.{selector, minimal_selector, maximal_nonselector}
use Rattle.simulate.specs.inner.Verdicts.{ends, Computes}
use Rattle.simulate.proofs.Sets.{counted}

-- a set between two sets of one member has one member
between : (n : ℕ) (p q r : ℕ → Bool) → ((x : ℕ) → p x ≡ true → q x ≡ true) → ((x : ℕ) → q x ≡ true → r x ≡ true)
    → size n p ≡ 1 → size n r ≡ 1 → size n q ≡ 1
between n p q r f g a b =
    let (x, o) = size_sole n p a in
    let (y, u) = size_sole n r b in
    let e : x ≡ y = u.only x o.below (g x (f x o.member)) in
    sole_size n q x (record { below = o.below; member = f x o.member; only = λ z h d. u.only z h (g z d) ∙ sym e })

module _ (S : Semiautomaton) where
  -- R(s) is prefix-closed
  spells_take : (i : ℕ) (w : List ℕ) (s : ℕ) → spells S w s ≡ true → spells S (take i w) s ≡ true
  unfolding spells
  spells_take zero w s e = refl
  spells_take (suc i) [] s e = refl
  spells_take (suc i) (a ∷ w) s e =
      with_any _ _ (λ r h d. let (x, y) = and_out (S.edge s a r) (spells S w r) d in any_in _ _ r h (and_in _ _ x (spells_take i w r y))) e

module _ (S : Semiautomaton) (X : ℕ → Bool) where
  -- what survives a word survives its prefixes
  survives_take : (i : ℕ) (w : List ℕ) (t : ℕ) → survivors S X w t ≡ true → survivors S X (take i w) t ≡ true
  survives_take i w t e = let (a, b) = and_out (X t) (spells S w t) e in and_in (X t) _ a (spells_take S i w t b)

  -- of a selector some shorter prefix is one exactly where the longest is
  shorter : (w : List ℕ) → size S.n (survivors S X w) ≡ 1 → 0 < length w
      → any (length w) (λ i. selector S X (take i w)) ≡ selector S X (take (length w - 1) w)
  unfolding selector
  shorter w one h = same_test _ _
      (with_any _ _ (λ i g d. eq-eqb _ 1 (between S.n (survivors S X w) _ (survivors S X (take i w))
      (survives_take (length w - 1) w)
      (λ t q. rw (take-take i (length w - 1) w (omega arith)) at (survives_take i (take (length w - 1) w) t q))
      one (eqb-true _ 1 d))))
      (λ d. any_in _ _ (length w - 1) (omega arith) d)

  module _ (w : List ℕ) {found : ℕ} (e : found ≡ set_of S.n (survivors S X w)) where
    many : ones found ≡ size S.n (survivors S X w)
    many = counted S.n _ e

    -- a maximal nonselector has two survivors or more
    none : ones found ≤ 1 → 0 ≡ set_of S.n (maximal_nonselector S X w)
    unfolding maximal_nonselector
    none h = is_set_of S.n _ 0 (pow_pos S.n) λ t _.
        has_empty t ∙ sym (rw (le-ltb 1 _ (rw many at h)) (and-false (survivors S X w t)))

    pub of_several : 1 < ones found → {last : ℕ} → last ≡ set_of S.n (λ t. has found t && ends S w t)
        → Computes S X w (record { survivors = found; minimal = false; nonselected = last })
    unfolding minimal_selector selector maximal_nonselector
    of_several h d =
        let h : 1 < size S.n (survivors S X w) = rw many at h in
        record {
          survivors = e;
          minimal = rw (ne_eqb (size S.n (survivors S X w)) 1 (λ z. omega arith));
          nonselected = d ∙ set_of_cong S.n _ _ (λ t g. rw (lt-ltb 1 _ h, e, has_set_of, lt-ltb t S.n g));
        }

    pub of_none : ones found ≡ 0 → Computes S X w (record { survivors = found; minimal = false; nonselected = 0 })
    unfolding minimal_selector selector
    of_none z = record { survivors = e; minimal = rw (← many, z); nonselected = none (omega arith) }

    module _ (one : ones found ≡ 1) where
      pub of_one_empty : length w ≡ 0 → Computes S X w (record { survivors = found; minimal = true; nonselected = 0 })
      unfolding minimal_selector selector any
      of_one_empty z = record { survivors = e; minimal = rw (← many, one, z); nonselected = none (omega arith) }

      pub of_one : (last : ℕ) (rest : List ℕ) → IsLastAndRest w last rest → {before : ℕ} → before ≡ set_of S.n (survivors S X rest)
          → Computes S X w (record { survivors = found; minimal = not (eqb (ones before) 1); nonselected = 0 })
      unfolding minimal_selector selector
      of_one last rest (ends, long) d =
          let short : length w - 1 ≡ length rest = omega arith in
          let longest : take (length w - 1) w ≡ rest = rw (short, ends) (take_at rest (last ∷ []) _ refl) in
          record {
            survivors = e;
            minimal = rw (counted S.n _ d, ← many, one, ← longest, shorter w (sym many ∙ one) (omega arith));
            nonselected = none (omega arith);
          }
