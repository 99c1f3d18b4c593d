-- The largest of the entries, and the look-ahead by needs.
-- Assumes nothing.
use Prim.Native.Nat.{ℕ, zero, suc, ◌*◌, ◌/◌, ◌%◌, ◌≤◌, ◌<◌}
use mathlib.Core.Bool.{true, false}
use mathlib.Core.Path.{◌≡◌, refl, sym, ◌∙◌}
use mathlib.Core.Logic.{◌⊎◌, inl, inr}
use mathlib.Core.List.{List, [], ◌∷◌}
use native.Mathlib.Decide.{dec_lt}
use native.Mathlib.Omega.{arith}
use lib.Dec.{eqb}
use lib.ListN.{length, get_or}
use borrow.Author.Tests.{eqb-false, ne_eqb, lt-ltb, le-ltb}
use Rattle.bitset.proofs.Tests.{decided}
use Rattle.semiautomata.specs.Semiautomaton.{Semiautomaton, Within}
use Rattle.semiautomata.specs.Predictability.{Critical, initial, fork, member, Lookahead, Unpredictable}
use Rattle.semiautomata.proofs.Shares.{set_more}
use Rattle.semiautomata.proofs.Decide.{unpredictable_witness, witness_endless}
use Rattle.semiautomata.proofs.BySets.{state_lt, letter_lt, place_of_lem, place_lt}
use Rattle.semiautomata.specs.Sizes.{endless, unmeasured}
use Rattle.needs.specs.Needs.{Measured, NoNeed, Says, Of, place_of, entries, TellsNeeds, larger, largest}
use Rattle.needs.specs.Theorems.{SomeEndless}

-- THE LARGEST

larger_is : (v w : ℕ) → (v ≤ larger v w) × (w ≤ larger v w) × ((larger v w ≡ v) ⊎ (larger v w ≡ w))
larger_is v w = elim (dec_lt v w) [
  | yes h ↦ rw (lt-ltb v w h) (omega arith, omega arith, inr refl)
  | no h ↦ rw (le-ltb v w (omega arith)) (omega arith, omega arith, inl refl)
]

-- one number in front
largest_marked : (v : ℕ) (vs : List ℕ) → eqb v unmeasured ≡ true → largest (v ∷ vs) ≡ largest vs
unfolding largest
largest_marked v vs e = rw e

largest_with : (v : ℕ) (vs : List ℕ) → eqb v unmeasured ≡ false → largest (v ∷ vs) ≡ larger v (largest vs)
unfolding largest
largest_with v vs e = rw e

largest_more : (v : ℕ) (vs : List ℕ) → largest vs ≤ largest (v ∷ vs)
largest_more v vs = elim (decided (eqb v unmeasured)) [
  | inl e ↦ rw (largest_marked v vs e) (omega arith)
  | inr e ↦ rw (largest_with v vs e) (larger_is v (largest vs)).1
]

largest_le : (vs : List ℕ) (i : ℕ) → i < length vs → ¬ (get_or vs i 0 ≡ unmeasured) → get_or vs i 0 ≤ largest vs
largest_le [] i h ne = absurd (omega arith)
largest_le (v ∷ vs) zero h ne = rw (largest_with v vs (ne_eqb v unmeasured ne)) (larger_is v (largest vs)).0
largest_le (v ∷ vs) (suc i) h ne = omega (arith, largest_le vs i (omega arith) ne, largest_more v vs)

-- the number at a place is the largest
pub record Reaches (vs : List ℕ) : Type 0 where
  pub at : ℕ
  pub below : at < length vs
  pub counts : ¬ (get_or vs at 0 ≡ unmeasured)
  pub is : get_or vs at 0 ≡ largest vs

largest_later : {v : ℕ} {vs : List ℕ} → (largest vs ≡ 0) ⊎ Reaches vs → largest (v ∷ vs) ≡ largest vs
    → (largest (v ∷ vs) ≡ 0) ⊎ Reaches (v ∷ vs)
largest_later (inl z) e = inl (e ∙ z)
largest_later (inr r) e = inr (record { at = suc r.at; below = omega (arith, r.below); counts = r.counts; is = r.is ∙ sym e })

largest_some : (vs : List ℕ) → (largest vs ≡ 0) ⊎ Reaches vs
unfolding largest
largest_some [] = inl refl
largest_some (v ∷ vs) = elim (decided (eqb v unmeasured)) [
  | inl e ↦ largest_later (largest_some vs) (largest_marked v vs e)
  | inr e ↦ elim (larger_is v (largest vs)).2 [
    | inl l ↦ inr (record { at = 0; below = omega arith; counts = eqb-false v unmeasured e; is = sym (largest_with v vs e ∙ l) })
    | inr l ↦ largest_later (largest_some vs) (largest_with v vs e ∙ l)
  ]
]

-- THE ORDER

module _ (S : Semiautomaton) where
  pub each_place : (i : ℕ) → i < entries S → (T : Critical) × Of S T × (place_of S T ≡ i)
  each_place zero h = (initial, tt, refl)
  each_place (suc j) h =
      let g : j < S.n * S.m = omega arith in (
        fork (j / S.m) (j % S.m),
        (state_lt S.n S.m j g, letter_lt S.n S.m j g),
        let e = place_of_lem S.n S.m j g in omega (arith, e),
      )

  pub place_of_lt : (T : Critical) → Of S T → place_of S T < entries S
  place_of_lt initial _ = omega arith
  place_of_lt (fork q a) (h, g) = omega (arith, place_lt S.n S.m q a h g)

-- a critical set with a state is one of S
pub member_of : {S : Semiautomaton} → Within S → (T : Critical) (s : ℕ) → member S T s ≡ true → Of S T
member_of W initial s e = tt
member_of W (fork q a) s e = (W.from_lt q a s e, W.letter_lt q a s e)

-- THE LOOK-AHEAD

module _ {S : Semiautomaton} (W : Within S) {numbers : List ℕ} (t : TellsNeeds S numbers) where
  -- what the number of a set with a state says
  pub says_of : (T : Critical) (s : ℕ) → member S T s ≡ true → Says S T (get_or numbers (place_of S T) 0)
  says_of T s e = t.says T (member_of W T s e)

  pub in_numbers_lem : (T : Critical) → Of S T → place_of S T < length numbers
  in_numbers_lem T o = rw t.long (place_of_lt S T o)

  pub endless_at : (T : Critical) → Measured S T → NoNeed S T → get_or numbers (place_of S T) 0 ≡ endless
  endless_at T M never = let (_, (s, e)) = M in (says_of T s e).endless_is.1 (M, never)

  pub lookahead_largest : ¬ SomeEndless numbers → Lookahead S (largest numbers)
  lookahead_largest none = record {
    enough = λ T c h.
        let s = h.s in
        let e = h.rivals.left in
        let k = says_of T s e in
        let i = in_numbers_lem T (member_of W T s e) in
        let counted : ¬ (get_or numbers (place_of S T) 0 ≡ unmeasured) = λ z. k.unmeasured_is.0 z (c, (s, e)) in
        let ends : ¬ (get_or numbers (place_of S T) 0 ≡ endless) = λ z. none (place_of S T, i, z) in
        set_more (largest_le numbers (place_of S T) i counted) (k.need_is counted ends).1.enough h;
    least = λ j h. elim (largest_some numbers) [
      | inl z ↦ absurd (omega (arith, h, z))
      | inr r ↦
          let (T, o, at) = each_place S r.at (rw t.long at r.below) in
          let here : get_or numbers (place_of S T) 0 ≡ largest numbers = rw at r.is in
          let counted : ¬ (get_or numbers (place_of S T) 0 ≡ unmeasured) = rw at r.counts in
          let ends : ¬ (get_or numbers (place_of S T) 0 ≡ endless) = λ z. none (place_of S T, in_numbers_lem T o, z) in
          let (M, d) = (t.says T o).need_is counted ends in
          (T, M.0, d.least j (rw here h))
    ];
  }

  pub some_endless : SomeEndless numbers → Unpredictable S
  some_endless (i, h, e) k p =
      let (T, o, at) = each_place S i (rw t.long at h) in
      let (M, never) = (t.says T o).endless_is.0 (rw at e) in
      never k (p T M.0)

  pub unpredictable_endless : Unpredictable S → SomeEndless numbers
  unpredictable_endless u =
      let (c, w) = unpredictable_witness S W u in
      let o = member_of W c.set c.s w.s_in in
      (place_of S c.set, in_numbers_lem c.set o, endless_at c.set (w.counts, (c.s, w.s_in)) (witness_endless S c w))
