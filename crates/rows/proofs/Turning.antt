-- The table turned round, place by place.
-- Assumes nothing.
use mathlib.Core.Bool.{false, ◌&&◌, and-true, or-false}
use mathlib.Core.Path.{◌≡◌, refl, ◌∙◌}
use mathlib.Core.List.{List}
use Prim.Native.Nat.{ℕ, ◌+◌, ◌*◌, ◌/◌, ◌%◌, ◌^◌, ◌≤◌, ◌<◌}
use native.Mathlib.Decide.{ℕ_discrete, dec_lt}
use native.Mathlib.Nat.{lt_of_lt_of_le, mul-le-mul_right, suc-mul}
use native.Mathlib.Numerals.{add-one}
use native.Mathlib.Omega.{arith}
use lib.Dec.{ltb, eqb}
use lib.ListN.{length}
use borrow.Author.Tests.{ltb-true, lt-ltb, le-ltb, eqb-true, eq-eqb}
use Rattle.bitset.specs.Numbers.{has}
use Rattle.bitset.proofs.Tests.{and_out, not_so, same_test}
use Rattle.bitset.proofs.Bits.{has_empty, has_set_of, has_shl, same_members, set_of_lt}
use Rattle.semiautomata.specs.Sizes.{max_sets}
use Rattle.semiautomata.specs.Successors.{place, Fit, set_at, Blank}
use Rattle.semiautomata.specs.declared.successors.Successors.{Successors}
use Rattle.semiautomata.proofs.BySets.{place_lt, place_of_lem, letter_lt}
use Rattle.rows.specs.Turned.{Turned}
use Rattle.rows.specs.inner.Joined.{JoinedAt}
use Rattle.semiautomata.proofs.Places.{place_same, size_le}

-- the sets of the first i places are turned round
pub record Turning (x : Successors) (i : ℕ) (back : List ℕ) : Type 0 where
  pub long : length back ≡ 2048
  pub is : (r b s : ℕ) → b < x.m → has (set_at x.m back r b) s ≡ (ltb (place x.m s b) i && has (set_at x.m x.sets.now s b) r)

module _ {x : Successors} where
  pub turning_first : {back : List ℕ} → Blank max_sets back → Turning x (place x.m 0 0) back
  turning_first k = record {
    long = k.long;
    is = λ r b s h. rw (k.zero (place x.m r b), has_empty, le-ltb (place x.m s b) (place x.m 0 0) (omega arith));
  }

  pub turning_next : {old new : List ℕ} {s a : ℕ} → s < x.n → a < x.m
      → JoinedAt x.m a (has (set_at x.m x.sets.now s a)) ((1 * 2 ^ s) % 2 ^ 64) old new
      → Turning x (place x.m s a) old → Turning x (place x.m s (a + 1)) new
  turning_next {old} {new} {s} {a} hs ha j k = record {
    long = j.long ∙ k.long;
    is = λ r b y h. rw (j.is r b y h, k.is r b y h, has_shl 64 s y (lt_of_lt_of_le hs x.fit.states)) (elim (ℕ_discrete (place x.m y b) (place x.m s a)) [
      | yes q ↦
          let (e, d) = place_same x.m y b s a h ha q in
          let i = place x.m s a in
          let next = lt-ltb i (s * x.m + (a + 1)) (omega arith) in
          rw (e, d, le-ltb i i (omega arith), next, eq-eqb a a refl, eq-eqb s s refl, and-true)
      | no q ↦
          let none : ((eqb a b && has (set_at x.m x.sets.now s a) r) && eqb s y) ≡ false = not_so _ λ e.
          let (z, w) = and_out _ (eqb s y) e in
          q (rw (eqb-true a b (and_out (eqb a b) (has (set_at x.m x.sets.now s a) r) z).0, eqb-true s y w)) in
          let same : ltb (place x.m y b) (s * x.m + (a + 1)) ≡ ltb (place x.m y b) (place x.m s a) = same_test _ _
          (λ e. let l = ltb-true (place x.m y b) _ e in lt-ltb (place x.m y b) _ (omega arith))
          (λ e. let l = ltb-true (place x.m y b) _ e in lt-ltb (place x.m y b) _ (omega arith)) in
          rw (none, or-false, same)
    ]);
  }

  -- the next row
  pub turning_row : {back : List ℕ} (s : ℕ) → Turning x (place x.m s x.m) back → Turning x (place x.m (s + 1) 0) back
  turning_row s k = let e : s * x.m + x.m ≡ (s + 1) * x.m + 0 = rw add-one (omega (arith, suc-mul s x.m)) in rw e at k

  pub turning_all : {back : List ℕ} → Turning x (place x.m x.n 0) back → Turned x back
  turning_all k = record { is = λ r a h. same_members _ _ λ s. k.is r a s h ∙ rw has_set_of (rw (below s a h)) }
    where
      below : (s a : ℕ) → a < x.m → ltb (place x.m s a) (x.n * x.m + 0) ≡ ltb s x.n
      below s a h = same_test _ _
          (λ e. elim (dec_lt s x.n) [
            | yes l ↦ lt-ltb s x.n l
            | no l ↦ let g : x.n ≤ s = omega arith in absurd (omega (arith, ltb-true (place x.m s a) _ e, mul-le-mul_right x.m g))
          ])
          (λ e. lt-ltb (place x.m s a) _ (omega (arith, place_lt x.n x.m s a (ltb-true s x.n e) h)))

  -- it is a table of successor sets too
  pub turned_fit : {back : List ℕ} → length back ≡ 2048 → Turned x back → Fit x.n x.m back
  turned_fit {back} e t = record {
    states = x.fit.states;
    letters = x.fit.letters;
    room = rw e (size_le x.fit.states x.fit.letters);
    below = λ i h. rw (← place_of_lem x.n x.m i h) (rw (t.is (i / x.m) (i % x.m) (letter_lt x.n x.m i h)) (set_of_lt x.n _));
  }
