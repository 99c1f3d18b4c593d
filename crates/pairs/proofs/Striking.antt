-- Striking the pairs that are led on to no live pair, row by row, and waking the pairs that lead to them.
-- Assumes nothing.
use mathlib.Core.Bool.{true, not, ◌&&◌, false≢true, and-true, and-false, or-false}
use mathlib.Core.Path.{◌≡◌, refl, sym, ◌∙◌}
use mathlib.Core.Logic.{inl, inr}
use mathlib.Core.List.{List}
use Prim.Native.Nat.{ℕ, ◌+◌, ◌*◌, ◌%◌, ◌^◌, ◌≤◌, ◌<◌}
use native.Mathlib.Decide.{dec_lt}
use native.Mathlib.Numerals.{add-one}
use native.Mathlib.Omega.{arith}
use lib.Bits.{bit_and, bit_or, or_zero_r}
use lib.Dec.{ltb, eqb}
use lib.ListN.{get_or, replicate}
use borrow.Author.Count.{below_more}
use borrow.Author.Tests.{eqb-true, eq-eqb, lt-ltb, le-ltb, le-leb, lt-leb}
use Rattle.bitset.specs.Sets.{any}
use Rattle.bitset.specs.Numbers.{has, set_of}
use Rattle.bitset.proofs.Tests.{and_in, and_out, or_left, or_right, or_cases}
use Rattle.bitset.proofs.Below.{any_in}
use Rattle.bitset.proofs.Bits.{has_or, has_and, has_empty, has_shl, has_set_of, has_lt, fits}
use Rattle.semiautomata.specs.Semiautomaton.{Semiautomaton}
use Rattle.semiautomata.specs.Walks.{step}
use Rattle.semiautomata.specs.Successors.{set_at}
use Rattle.semiautomata.specs.Means.{means}
use Rattle.semiautomata.specs.declared.successors.Successors.{Successors}
use Rattle.semiautomata.proofs.BySets.{edge_is}
use Rattle.rows.specs.Rows.{pair, Put}
use Rattle.semiautomata.proofs.Places.{place_fits, zeros_at}
use Rattle.pairs.specs.Sharing.{leads}
use Rattle.pairs.specs.inner.Rounds.{Fits, falls, Struck, Woken, Waking}

-- WHAT A ROUND STRIKES

-- the states no higher than s are below n
pub work_fits : (n s x : ℕ) → s < n → bit_and x (set_of 64 (λ t. ltb t (s + 1))) < 2 ^ n
work_fits n s x h = fits n _ λ t g. rw (has_and, has_set_of, le-ltb t (s + 1) (omega arith), and-false, and-false)

module _ (S : Semiautomaton) (live look : List ℕ) where
  pub struck_first : Struck S live look (replicate 64 0) 0 0
  unfolding any
  struck_first = record {
    both = λ s t h. absurd (omega arith);
    only = λ s t e. absurd (false≢true (sym (rw (zeros_at 64 s) (has_empty t)) ∙ e));
    some = λ t. has_empty t;
  }

  -- the states that are struck by the tests of row s: they are no higher than s
  abbrev row : ℕ → ℕ
  row s =
      let work = bit_and (bit_and (get_or look s 0) (get_or live s 0)) (set_of 64 (λ t. ltb t (s + 1))) in
      set_of S.n (λ t. has work t && not (leads S live s t))

  falls_is : (s out : ℕ) → s < S.n → S.n ≤ 64 → out ≡ row s → (t : ℕ) → has out t ≡ falls S live look s t
  falls_is s out h w e t = elim (dec_lt s t) [
    | yes g ↦ rw (e, has_set_of, has_and, has_set_of, le-ltb t (s + 1) (omega arith), lt-leb t s g, and-false, and-false, and-false)
    | no g ↦
        let below = lt-ltb t S.n (omega arith) in
        let work = lt-ltb t (s + 1) (omega arith) in
        rw (e, has_set_of, has_and, has_set_of, below, lt-ltb t 64 (omega arith), work, le-leb t s (omega arith), and-true, has_and)
  ]

  pub struck_next : {old mid new : List ℕ} {gone s out : ℕ} → s < S.n → S.n ≤ 64 → out ≡ row s
      → Put out ((1 * 2 ^ s) % 2 ^ 64) old mid → Put ((1 * 2 ^ s) % 2 ^ 64) out mid new
      → Struck S live look old gone s → Struck S live look new (bit_or gone out) (s + 1)
  unfolding any
  struck_next {old} {mid} {new} {gone} {s} {out} h w e p q k = record {
    both = λ x t. below_more (λ (x : ℕ). falls S live look x t ≡ true → (pair new x t ≡ true) × (pair new t x ≡ true)) s
        (λ x g f. let (a, b) = k.both x t g f in (kept x t a, kept t x b))
        (λ f.
        let o = is t ∙ f in
        let back = p.is t s ∙ or_right (pair old t s) _ (and_in _ _ o here) in
        (q.is s t ∙ or_right (pair mid s t) _ (and_in _ _ here o), q.is t s ∙ or_left _ _ back)) x;
    only = λ x t f. elim (or_cases (pair mid x t) _ (sym (q.is x t) ∙ f)) [
      | inl f ↦ elim (or_cases (pair old x t) _ (sym (p.is x t) ∙ f)) [
        | inl f ↦ elim (k.only x t f) [ inl (g, d) ↦ inl (omega arith, d) | inr (g, d) ↦ inr (omega arith, d) ]
        | inr f ↦ let (o, b) = and_out (has out x) _ f in inr (at t b x o)
      ]
      | inr f ↦ let (b, o) = and_out _ (has out t) f in inl (at x b t o)
    ];
    some = λ t. rw (add-one, has_or, k.some t, is t);
  }
    where
      is : (t : ℕ) → has out t ≡ falls S live look s t
      is = falls_is s out h w e

      bit : (t : ℕ) → has ((1 * 2 ^ s) % 2 ^ 64) t ≡ eqb s t
      bit t = has_shl 64 s t (omega arith)

      here : has ((1 * 2 ^ s) % 2 ^ 64) s ≡ true
      here = bit s ∙ eq-eqb s s refl

      kept : (x t : ℕ) → pair old x t ≡ true → pair new x t ≡ true
      kept x t f = q.is x t ∙ or_left _ _ (p.is x t ∙ or_left _ _ f)

      at : (x : ℕ) → has ((1 * 2 ^ s) % 2 ^ 64) x ≡ true → (t : ℕ) → has out t ≡ true → (x < s + 1) × (falls S live look x t ≡ true)
      at x b t o = let z = eqb-true s x (sym (bit x) ∙ b) in (omega arith, rw (← z) (sym (is t) ∙ o))

  -- a row of which nothing is struck: nothing is put in
  pub struck_none : {rows : List ℕ} {gone s out : ℕ} → s < S.n → S.n ≤ 64 → out ≡ row s → out ≡ 0
      → Struck S live look rows gone s → Struck S live look rows gone (s + 1)
  struck_none {rows} {gone} h w e z k =
      rw (or_zero_r gone) at (struck_next {mid = rows} {new = rows} h w (sym z ∙ e)
      (record { long = refl; is = λ s t. rw (has_empty s, or-false) })
      (record { long = refl; is = λ s t. rw (has_empty t, and-false, or-false) }) k)

-- WHAT IT WAKES

-- what a row s wakes
abbrev Wakes : (back : Successors) (struck look : List ℕ) (t a x y s : ℕ) → Type 0
Wakes back struck look t a x y s =
    pair struck s t ≡ true → a < back.m → has (set_at back.m back.sets.now s a) x ≡ true
    → has (set_at back.m back.sets.now t a) y ≡ true → pair look x y ≡ true

module _ {back : Successors} {struck : List ℕ} where
  pub waking_first : {look : List ℕ} → Waking back struck look 0
  waking_first = record { wakes = λ s t a x y h. absurd (omega arith) }

  -- a row of which nothing is struck
  pub waking_none : {look : List ℕ} {s : ℕ} → get_or struck s 0 ≡ 0 → Waking back struck look s → Waking back struck look (s + 1)
  waking_none {look} {s} e k = record {
    wakes = λ z t a x y. below_more (Wakes back struck look t a x y) s
        (λ z h. k.wakes z t a x y h)
        (λ f. absurd (false≢true (sym (rw e (has_empty t)) ∙ f))) z;
  }

  pub waking_next : {look new : List ℕ} {s : ℕ} → Fits back.n struck → s < back.n → Woken back s (get_or struck s 0) look new
      → Waking back struck look s → Waking back struck new (s + 1)
  unfolding step
  waking_next {look} {new} {s} below h p k = record {
    wakes = λ z t a x y. below_more (Wakes back struck new t a x y) s
        (λ z g f b d e. p.is x y ∙ or_left _ _ (k.wakes z t a x y g f b d e))
        (λ f b d e.
        let ht = has_lt back.n (get_or struck s 0) t (below s h) f in
        let hy = has_lt back.n (set_at back.m back.sets.now t a) y (place_fits back.fit t a ht b) e in
        let joined : has (set_of back.n (step (means back) (has (get_or struck s 0)) a)) y ≡ true =
        rw (has_set_of, lt-ltb y back.n hy)
        (any_in back.n _ t ht (and_in _ _ f (edge_is back.n back.m back.starts back.sets.now t a y ht b ∙ e))) in
        p.is x y ∙ or_right (pair look x y) _ (any_in back.m _ a b (and_in _ _ d joined))) z;
  }
