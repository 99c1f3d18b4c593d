-- The longest that two states of a set live: what the loops keep, and what they come to.
-- Assumes nothing.
use mathlib.Core.Bool.{Bool, true, false, not, true≢false, false≢true, ◌&&◌, ◌||◌}
use mathlib.Core.Bool.{and-true, and-false, and-not_self, and-or_distrib_left, and-or_distrib_right}
use mathlib.Core.Path.{◌≡◌, refl, sym, ◌∙◌}
use mathlib.Core.Logic.{◌⊎◌, inl, inr}
use mathlib.Core.List.{List}
use Prim.Native.Nat.{ℕ, ◌≤◌, ◌<◌, max}
use native.Mathlib.Decide.{ℕ_discrete, dec_lt}
use native.Mathlib.Omega.{arith}
use lib.Bits.{bit_and}
use lib.Dec.{eqb, ltb}
use borrow.Author.Tests.{eqb-true, eqb-false, ne_eqb, eq-eqb, lt-ltb, le-ltb, ltb-true, not-true}
use Rattle.bitset.specs.Numbers.{has, set_of}
use Rattle.bitset.proofs.Tests.{and_in, and_out, or_left, or_right, or_cases}
use Rattle.bitset.proofs.Bits.{has_and, has_set_of}
use Rattle.bitset.specs.Members.{Taken}
use Rattle.bitset.proofs.Taking.{Left, taken, taken_with, taken_all, next_below}
use Rattle.pairs.specs.Lifetimes.{lifetime}
use Rattle.semiautomata.specs.Sizes.{endless, unmeasured}
use Rattle.needs.specs.inner.Longest.{Most, LongestLived}
use Rattle.needs.specs.inner.Entering.{Entered}

-- each state of a set that has been taken, with the lower ones
abbrev pub lower : (set rest x t : ℕ) → Bool
lower set rest x t = taken set rest x && (ltb t x && has set t)

-- the states of a set below z
below_is : (set z t : ℕ) → z < 64 → has (bit_and set (set_of 64 (λ t. ltb t z))) t ≡ (ltb t z && has set t)
below_is set z t h = has_and set _ t ∙ elim (dec_lt t z) [
  | yes g ↦ rw (has_set_of, lt-ltb t 64 (omega arith), lt-ltb t z g, and-true)
  | no g ↦ rw (has_set_of, le-ltb t z (omega arith), and-false, and-false)
]

one_of : (a b : ℕ) → (max a b ≡ a) ⊎ (max a b ≡ b)
one_of a b = elim (dec_lt a b) [ yes h ↦ inr (omega (arith, h)) | no h ↦ inl (omega (arith, h)) ]

module _ (numbers : List ℕ) where
  most_none : {P : ℕ → ℕ → Bool} {r : ℕ} → ((s t : ℕ) → P s t ≡ false) → Most numbers P r r
  most_none f = record { kept = omega arith; all = λ s t e. absurd (false≢true (sym (f s t) ∙ e)); some = inl refl }

  -- first the pairs of P, then those of Q
  most_then : {P Q R : ℕ → ℕ → Bool} {x y z : ℕ} → ((s t : ℕ) → R s t ≡ (P s t || Q s t)) → Most numbers P x y → Most numbers Q y z
      → Most numbers R x z
  most_then {P} {Q} {R} {x} {y} {z} f p q = record {
    kept = omega (arith, p.kept, q.kept);
    all = λ s t e. elim (or_cases (P s t) _ (sym (f s t) ∙ e)) [ inl h ↦ omega (arith, p.all s t h, q.kept) | inr h ↦ q.all s t h ];
    some = elim q.some [
      | inr l ↦ inr (record { s = l.s; t = l.t; paired = f l.s l.t ∙ or_right (P l.s l.t) _ l.paired; is = l.is })
      | inl e ↦ elim p.some [
        | inl d ↦ inl (e ∙ d)
        | inr l ↦ inr (record {
          s = l.s;
          t = l.t;
          paired = f l.s l.t ∙ or_left (P l.s l.t) _ l.paired;
          is = l.is ∙ sym e;
        })
      ]
    ];
  }

  -- one pair
  most_one : (s t : ℕ) {before r : ℕ} → before ≤ r → lifetime numbers s t ≤ r → (r ≡ before) ⊎ (r ≡ lifetime numbers s t)
      → Most numbers (λ x u. eqb s x && eqb t u) before r
  most_one s t h g c = record {
    kept = h;
    all = λ x u e. let (a, b) = and_out (eqb s x) _ e in rw (← eqb-true s x a, ← eqb-true t u b) g;
    some = elim c [
      | inl e ↦ inl e
      | inr e ↦ inr (record { s = s; t = t; paired = and_in _ _ (eq-eqb s s refl) (eq-eqb t t refl); is = sym e })
    ];
  }

  -- ONE STATE WITH OTHERS, which are taken one by one
  module _ (s others : ℕ) {before : ℕ} where
    pub with_first : Most numbers (λ x t. eqb s x && taken others others t) before before
    with_first = most_none λ x t. rw (and-not_self (has others t), and-false)

    module _ {rest r : ℕ} (l : Left 64 others rest) (k : Most numbers (λ x t. eqb s x && taken others rest t) before r) where
      pub with_next : {t left : ℕ} → Taken rest t left
          → Most numbers (λ x u. eqb s x && taken others left u) before (max r (lifetime numbers s t))
      with_next {t} p =
          most_then (λ x u. rw (taken_with l p u, and-or_distrib_left)) k
          (most_one s t (omega arith) (omega arith) (one_of r (lifetime numbers s t)))

      pub with_all : rest ≡ 0 → Most numbers (λ x t. eqb s x && has others t) before r
      with_all e = record {
        kept = k.kept;
        all = λ x t h. k.all x t (rw (taken_all l e t) h);
        some = elim k.some [
          | inl h ↦ inl h
          | inr w ↦ inr (record { s = w.s; t = w.t; paired = rw (taken_all l e w.t) at w.paired; is = w.is })
        ];
      }

  -- A SET: each of its states with the lower ones
  module _ (set : ℕ) where
    pub set_first : Most numbers (lower set set) 0 0
    set_first = most_none λ x t. rw (and-not_self (has set x))

    module _ {rest longest : ℕ} (l : Left 64 set rest) (k : Most numbers (lower set rest) 0 longest) where
      pub set_next : {z left r : ℕ} → Taken rest z left
          → Most numbers (λ x t. eqb z x && has (bit_and set (set_of 64 (λ t. ltb t z))) t) longest r → Most numbers (lower set left) 0 r
      set_next {z} {left} p q = most_then one_more k q
        where
          one_more : (x t : ℕ) → lower set left x t ≡ (lower set rest x t || eqb z x && has (bit_and set (set_of 64 (λ t. ltb t z))) t)
          one_more x t = elim (ℕ_discrete z x) [
            | yes e ↦ rw (taken_with l p x, and-or_distrib_right, below_is set z t (next_below l p), e)
            | no e ↦ rw (taken_with l p x, and-or_distrib_right, ne_eqb z x e)
          ]

      -- every state has been taken, or a pair lives for ever
      pub set_all : (rest ≡ 0) ⊎ (longest ≡ endless) → longest ≤ endless → LongestLived numbers (has set) longest
      set_all c few = record {
        few = few;
        all = λ ne s t a b h. elim c [
          | inl e ↦ k.all s t (rw (taken_all l e s, a, b, lt-ltb t s h))
          | inr e ↦ absurd (ne e)
        ];
        some = elim k.some [
          | inl e ↦ inl e
          | inr w ↦
              let (a, b) = and_out (taken set rest w.s) _ w.paired in
              let (h, g) = and_out (ltb w.t w.s) _ b in
              inr (w.s, w.t, (and_out (has set w.s) _ a).0, g, ltb-true w.t w.s h, w.is)
        ];
      }

-- THE NUMBER OF A SET, by the test whether it counts and is not empty
module _ {numbers : List ℕ} {set : ℕ} {counts : Bool} where
  pub entered_measured : {r : ℕ} → (counts && not (eqb set 0)) ≡ true → LongestLived numbers (has set) r → Entered numbers set counts r
  entered_measured e k = record {
    measured = λ _ _. k;
    idle = λ c.
        let (a, b) = and_out counts _ e in
        absurd (elim c [ inl z ↦ true≢false (sym a ∙ z) | inr z ↦ eqb-false set 0 (not-true _ b) z ]);
  }

  pub entered_idle : (counts && not (eqb set 0)) ≡ false → Entered numbers set counts unmeasured
  entered_idle e = record { measured = λ a ne. absurd (false≢true (sym e ∙ rw (a, ne_eqb set 0 ne))); idle = λ _. refl }
