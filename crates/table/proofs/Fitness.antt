-- What refusal 8 leaves: a table that is fit, and how its tests come to that.
-- Assumes nothing.
use Prim.Native.Nat.{ℕ, zero, suc, ◌+◌, ◌-◌, ◌*◌, ◌/◌, ◌^◌, ◌≤◌, ◌<◌}
use mathlib.Core.Bool.{Bool, true, false, not, ◌&&◌, ◌||◌, false≢true}
use mathlib.Core.Path.{◌≡◌, refl, sym, ◌∙◌, ap}
use mathlib.Core.Logic.{inl, inr}
use mathlib.Core.List.{List}
use native.Mathlib.Nat.{mul-le-mul}
use native.Mathlib.Omega.{arith}
use lib.Bits.{bit_and}
use lib.Dec.{eqb, ltb, leb}
use lib.ListN.{length, get_or, take, drop, length-take, length-drop}
use lib.Seq.{get_or-take, get_or-drop}
use borrow.Author.Tests.{ltb-false, leb-true, leb-false, eqb-true, not-false, le-ltb, le-leb, lt-leb, eq-eqb}
use Rattle.bitset.specs.Sets.{any}
use Rattle.bitset.specs.Numbers.{has, set_of}
use Rattle.bitset.proofs.Tests.{and_out, not_so, decided, same_test, or_none}
use Rattle.bitset.proofs.Below.{any_in, any_none, any_not}
use Rattle.bitset.proofs.Bits.{has_high, fits, mask_set_of, and_mask_fits, fits_and_mask}
use Rattle.semiautomata.specs.Semiautomaton.{Within}
use Rattle.semiautomata.specs.Successors.{Fit}
use Rattle.semiautomata.proofs.BySets.{fit_within}
use Rattle.semiautomata.specs.Sizes.{max_states, max_letters, max_lookahead}
use Rattle.table.specs.Table.{states_of, letters_of, lookahead_of, initial_of, sets_from, sets_of, table_meaning, unfit}

-- what holds of a table to which refusal 8 does not apply
pub record Fitting (table : List ℕ) : Type 0 where
  pub some_state : 1 ≤ states_of table
  pub states : states_of table ≤ max_states
  pub some_letter : 1 ≤ letters_of table
  pub letters : letters_of table ≤ max_letters
  pub room : sets_from + states_of table * letters_of table ≤ length table
  pub lookahead : lookahead_of table ≤ states_of table * (states_of table - 1) / 2
  pub initial : initial_of table < 2 ^ states_of table
  pub fit : Fit (states_of table) (letters_of table) (sets_of table)
  pub within : Within (table_meaning table)

-- n and m are in range
pub record Ranged (table : List ℕ) : Type 0 where
  pub some_state : 1 ≤ states_of table
  pub states : states_of table ≤ max_states
  pub some_letter : 1 ≤ letters_of table
  pub letters : letters_of table ≤ max_letters

pub fitting_of : {table : List ℕ} → Ranged table → sets_from + states_of table * letters_of table ≤ length table
    → lookahead_of table ≤ states_of table * (states_of table - 1) / 2 → initial_of table < 2 ^ states_of table
    → ((i : ℕ) → i < states_of table * letters_of table → get_or (sets_of table) i 0 < 2 ^ states_of table) → Fitting table
fitting_of {table} r l k h b = record {
  some_state = r.some_state;
  states = r.states;
  some_letter = r.some_letter;
  letters = r.letters;
  room = l;
  lookahead = k;
  initial = h;
  fit = fit;
  within = fit_within _ _ _ _ fit h;
}
  where
    fit : Fit (states_of table) (letters_of table) (sets_of table)
    fit = record { states = r.states; letters = r.letters; room = rw length-drop (omega arith); below = b }

-- THE TESTS

within_out : (a b x : ℕ) → not (leb a x && leb x b) ≡ false → (a ≤ x) × (x ≤ b)
within_out a b x e = let (h, g) = and_out (leb a x) (leb x b) (not-false _ e) in (leb-true a x h, leb-true x b g)

pub fitting : (table : List ℕ) → unfit table ≡ false → Fitting table
unfolding unfit
fitting table e =
    let (t1, e) = or_none _ _ e in
    let (t2, e) = or_none _ _ e in
    let (t3, e) = or_none _ _ e in
    let (t4, e) = or_none _ _ e in
    let (t5, e) = or_none _ _ e in
    let (t6, e) = or_none _ false e in
    let (n1, n2) = within_out 1 64 (states_of table) t2 in
    let (m1, m2) = within_out 1 32 (letters_of table) t3 in
    fitting_of (record { some_state = n1; states = n2; some_letter = m1; letters = m2 }) (ltb-false _ _ t1)
    (ltb-false _ _ t4) (leb-false _ _ t5)
    (λ i h. leb-false _ _ (any_not _ (λ i. leb (2 ^ states_of table) (get_or (sets_of table) i 0)) t6 i h))

-- the numbers at the front are there
pub front_there : (table : List ℕ) {told : Bool} → told ≡ unfit table → told ≡ false → sets_from ≤ length table
front_there table e z = omega (arith, (fitting table (sym e ∙ z)).room)

pub fitting_fit : {table : List ℕ} → Fitting table → unfit table ≡ false
unfolding unfit
fitting_fit {table} f =
    let n = states_of table in
    let m = letters_of table in
    rw (
      le-ltb (length table) (sets_from + n * m) f.room,
      le-leb 1 n f.some_state,
      le-leb n 64 f.states,
      le-leb 1 m f.some_letter,
      le-leb m 32 f.letters,
      le-ltb (n * (n - 1) / 2) (lookahead_of table) f.lookahead,
      lt-leb (2 ^ n) (initial_of table) f.initial,
      any_none (n * m) (λ i. leb (2 ^ n) (get_or (sets_of table) i 0)) (λ i h. lt-leb _ _ (f.fit.below i h)),
    )

-- what cannot be fit is refused
pub refused : (table : List ℕ) → (Fitting table → ⊥) → unfit table ≡ true
refused table h = elim (decided (unfit table)) [ inl e ↦ e | inr e ↦ absurd (h (fitting table e)) ]

-- no product wraps
pub cells_le : {table : List ℕ} → Ranged table → states_of table * letters_of table ≤ max_states * max_letters
cells_le r = mul-le-mul r.states r.letters

-- no product of n and n - 1 is too great
pub pairs_le : (n : ℕ) → n ≤ max_states → n * (n - 1) ≤ 2 * max_lookahead
pairs_le n h = let g : n - 1 ≤ 63 = omega arith in mul-le-mul h g

pub lookahead_le : {table : List ℕ} → Fitting table → lookahead_of table ≤ max_lookahead
lookahead_le {table} f = omega (arith, pairs_le (states_of table) f.states, f.lookahead)

-- the number joins all numbers of the list
abbrev pub Joins : ℕ → List ℕ → Type 0
Joins all l = (t : ℕ) → has all t ≡ any (length l) (λ i. has (get_or l i 0) t)

-- all numbers of a list joined lie below 2 ^ n exactly where each does
module _ (n all : ℕ) (l : List ℕ) (u : Joins all l) where
  each_below : all < 2 ^ n → (i : ℕ) → i < length l → get_or l i 0 < 2 ^ n
  each_below h i g = fits n _ (λ t k. not_so _ (λ e. false≢true (sym (has_high n all t h k) ∙ u t ∙ any_in _ _ i g e)))

  all_below : ((i : ℕ) → i < length l → get_or l i 0 < 2 ^ n) → all < 2 ^ n
  all_below b = fits n all (λ t k. u t ∙ any_none _ _ (λ i g. has_high n _ t (b i g) k))

-- the initial states and, behind them, c sets
abbrev pub sides : List ℕ → ℕ → List ℕ
sides table c = take (sets_from + c - 3) (drop 3 table)

module _ (table : List ℕ) (c : ℕ) (h : sets_from + c ≤ length table) where
  sides_length : length (sides table c) ≡ suc c
  sides_length = simp (length-take, length-drop) (omega arith)

  sides_at : (i : ℕ) → i < suc c → get_or (sides table c) i 0 ≡ get_or table (3 + i) 0
  sides_at i g = let k : i < sets_from + c - 3 = omega arith in get_or-take (sets_from + c - 3) (drop 3 table) i 0 k ∙ get_or-drop 3 table i 0

  sides_set : (i : ℕ) → i < c → get_or (sides table c) (suc i) 0 ≡ get_or (sets_of table) i 0
  sides_set i g =
      let e : 3 + suc i ≡ sets_from + i = omega arith in
      sides_at (suc i) (omega arith) ∙ ap (λ (j : ℕ). get_or table j 0) e ∙ sym (get_or-drop sets_from table i 0)

  module _ (n all : ℕ) (u : Joins all (sides table c)) where
    sides_below : all < 2 ^ n → (initial_of table < 2 ^ n) × ((i : ℕ) → i < c → get_or (sets_of table) i 0 < 2 ^ n)
    sides_below b =
        let at : (i : ℕ) → i < suc c → get_or (sides table c) i 0 < 2 ^ n
        = λ i g. each_below n all (sides table c) u b i (rw sides_length g) in
        (rw (sides_at 0 (omega arith)) at (at 0 (omega arith)), λ i g. rw (← sides_set i g) (at (suc i) (omega arith)))

    below_sides : initial_of table < 2 ^ n → ((i : ℕ) → i < c → get_or (sets_of table) i 0 < 2 ^ n) → all < 2 ^ n
    below_sides a b = all_below n all (sides table c) u (λ i g. go i (rw sides_length at g))
      where
        go : (i : ℕ) → i < suc c → get_or (sides table c) i 0 < 2 ^ n
        go zero g = rw (sides_at zero g) a
        go (suc i) g = rw (sides_set i (omega arith)) (b i (omega arith))

-- what is left to test once n, m and the length are in range
pub tested : {table : List ℕ} → Ranged table → sets_from + states_of table * letters_of table ≤ length table → (all mask : ℕ)
    → Joins all (sides table (states_of table * letters_of table))
    → mask ≡ set_of 64 (λ t. ltb t (states_of table))
    → (ltb (states_of table * (states_of table - 1) / 2) (lookahead_of table) || not (eqb (bit_and all mask) all)) ≡ unfit table
tested {table} r l all mask u e = same_test _ _
    (λ d. refused table (λ f. false≢true (sym (passes f) ∙ d)))
    (λ d. elim (decided left) [ inl q ↦ q | inr q ↦ absurd (false≢true (sym (fitting_fit (built q)) ∙ d)) ])
  where
    left : Bool
    left = ltb (states_of table * (states_of table - 1) / 2) (lookahead_of table) || not (eqb (bit_and all mask) all)

    low : mask ≡ 2 ^ states_of table - 1
    low = e ∙ sym (mask_set_of 64 (states_of table) r.states)

    passes : Fitting table → left ≡ false
    passes f =
        rw (
          le-ltb _ _ f.lookahead,
          low,
          fits_and_mask (states_of table) all (below_sides table _ l (states_of table) all u f.initial f.fit.below),
          eq-eqb all all refl,
        )

    built : left ≡ false → Fitting table
    built q =
        let (k, q) = or_none _ _ q in
        let m = and_mask_fits (states_of table) all (rw low at (eqb-true (bit_and all mask) all (not-false _ q))) in
        let (a, b) = sides_below table _ l (states_of table) all u m in
        fitting_of r l (ltb-false _ _ k) a b
