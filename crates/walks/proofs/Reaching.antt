-- The states that some walk reaches, taken one by one from what is to do: seen and not done.
-- Assumes nothing.
use Prim.Native.Nat.{ℕ, ◌+◌, ◌^◌, ◌<◌}
use mathlib.Core.Bool.{Bool, true, false, not, xor, ◌&&◌, false≢true, and-true}
use mathlib.Core.Path.{◌≡◌, refl, sym, ◌∙◌}
use mathlib.Core.Logic.{inl, inr}
use mathlib.Core.List.{List, [], ◌∷◌}
use native.Mathlib.Omega.{arith}
use native.Mathlib.Numerals.{add-one}
use lib.Bits.{bit_or, bit_xor, xor_lt, or_lt}
use lib.Dec.{ltb}
use lib.Pow.{pow_pos}
use borrow.Author.Tests.{eqb-true, lt-ltb, not-true}
use Rattle.bitset.specs.Sets.{any, size}
use Rattle.bitset.specs.Numbers.{has, set_of}
use Rattle.bitset.specs.Members.{Taken}
use Rattle.bitset.proofs.Tests.{and_out, or_left, or_right, or_cases, not_so, same_test}
use Rattle.bitset.proofs.Below.{any_in, any_out, size_fewer}
use Rattle.bitset.proofs.Bits.{has_or, has_xor, has_empty, some_member, has_set_of, set_of_lt, is_set_of, same_members}
use Rattle.bitset.proofs.Taking.{Left, left_first, left_next, next_below, next_in, taken, taken_with, taken_all}
use Rattle.semiautomata.specs.Semiautomaton.{Semiautomaton, Within, Path, Accessible, Reached}
use Rattle.semiautomata.specs.Access.{accessible}
use Rattle.semiautomata.specs.Successors.{set_at, Fit}
use Rattle.semiautomata.specs.Means.{means}
use Rattle.semiautomata.specs.declared.successors.Successors.{Successors}
use Rattle.walks.specs.Walking.{led_by}
use Rattle.semiautomata.proofs.Paths.{initial_accessible, accessible_next}
use Rattle.semiautomata.proofs.Access.{accessible_in, accessible_out}
use Rattle.semiautomata.proofs.BySets.{edge_out, edge_is}
use Rattle.semiautomata.proofs.Places.{place_fits}
use Rattle.walks.proofs.Steps.{means_within}

-- FROM ONE STATE, the letters below i

pub led_first : (n m : ℕ) (sets : List ℕ) (s : ℕ) → 0 ≡ set_of n (led_by m sets s 0)
unfolding any
led_first n m sets s = is_set_of n _ 0 (pow_pos n) (λ t _. has_empty t)

pub led_next : {n m : ℕ} {sets : List ℕ} → Fit n m sets → {s i out : ℕ} → s < n → i < m → out ≡ set_of n (led_by m sets s i)
    → bit_or out (set_at m sets s i) ≡ set_of n (led_by m sets s (i + 1))
unfolding any
led_next {n} {m} {sets} f {s} {i} {out} h g e =
    let below : out < 2 ^ n = rw e (set_of_lt n (led_by m sets s i)) in
    is_set_of n (led_by m sets s (i + 1)) _ (or_lt n out (set_at m sets s i) below (place_fits f s i h g))
    (λ t k. rw (has_or, e, has_set_of, lt-ltb t n k, add-one))

-- SEEN AND DONE

-- where what is done is seen, only what is seen can be to do
xor_seen : (s d : Bool) → (d ≡ true → s ≡ true) → xor s d ≡ true → (s ≡ true) × (d ≡ false)
unfolding xor
xor_seen true true f e = absurd (false≢true e)
xor_seen true false f e = (refl, refl)
xor_seen false true f e = absurd (false≢true (f refl))
xor_seen false false f e = absurd (false≢true e)

-- and what is seen and not to do is done
and_not_xor : (s d : Bool) → (d ≡ true → s ≡ true) → (s && not (xor s d)) ≡ d
unfolding xor
and_not_xor true true f = refl
and_not_xor true false f = refl
and_not_xor false true f = f refl
and_not_xor false false f = refl

module _ (S : Semiautomaton) where
  -- between two turns, while a rest of what is to be done is not taken yet: what is seen is accessible, and has the initial states and
  -- all that those taken lead to
  pub record Reaching (seen done rest : ℕ) : Type 0 where
    pub left : Left S.n done rest
    pub below : seen < 2 ^ S.n
    pub inside : (q : ℕ) → has done q ≡ true → has seen q ≡ true
    pub starts : (s : ℕ) → S.initial s ≡ true → has seen s ≡ true
    pub reached : Reached S (has seen)
    pub led : (q a t : ℕ) → taken done rest q ≡ true → S.edge q a t ≡ true → has seen t ≡ true

  module _ {seen done : ℕ} (r : Reaching seen done 0) where
    -- when nothing is to do
    pub reaching_all : Within S → seen ≡ done → seen ≡ set_of S.n (accessible S)
    reaching_all W e = is_set_of S.n _ seen r.below (λ t _. same_test _ _
        (λ h. accessible_in S W t (r.reached t h))
        (λ h. let c = accessible_out S t h in on c.word c.start t (r.starts c.start c.from_it) c.path))
      where
        on : (w : List ℕ) (q t : ℕ) → has seen q ≡ true → Path S q w t → has seen t ≡ true
        on [] q t h p = rw p at h
        on (a ∷ w) q t h (x, d, p) = on w x t (r.led q a x (taken_all r.left refl q ∙ (rw e at h)) d) p

    done_is : (q : ℕ) → taken seen (bit_xor seen done) q ≡ has done q
    done_is q = rw has_xor (and_not_xor (has seen q) (has done q) (r.inside q))

    -- what is seen and not done is to be taken next: the same have been taken
    pub front_taken : (q : ℕ) → taken seen (bit_xor seen done) q ≡ taken done 0 q
    front_taken q = done_is q ∙ sym (taken_all r.left refl q)

    to_do : (q : ℕ) → has (bit_xor seen done) q ≡ true → (has seen q ≡ true) × (has done q ≡ false)
    to_do q e = xor_seen _ _ (r.inside q) (sym (has_xor seen done q) ∙ e)

    pub reaching_front : Reaching seen seen (bit_xor seen done)
    reaching_front = record {
      left = record {
        width = r.left.width;
        whole = r.below;
        below = xor_lt S.n seen done r.below r.left.whole;
        inside = λ q e. (to_do q e).0;
      };
      below = r.below;
      inside = λ q e. e;
      starts = r.starts;
      reached = r.reached;
      led = λ q a t e. r.led q a t (sym (front_taken q) ∙ e);
    }

    -- then fewer are not done
    pub fewer_left : ¬ (seen ≡ done) → size S.n (λ t. not (has seen t)) < size S.n (λ t. not (has done t))
    fewer_left ne =
        let (z, h, d) = any_out S.n _ (some_member S.n (bit_xor seen done) some reaching_front.left.below) in
        let (in-seen, not_done) = to_do z d in
        size_fewer S.n (λ t. not (has seen t)) (λ t. not (has done t)) unseen z h (rw in-seen) (rw not_done)
      where
        some : 0 < bit_xor seen done
        some =
            let differ : ¬ (bit_xor seen done ≡ 0) = λ e. ne (same_members seen done (λ t. rw (e, has_empty, and-true) at (done_is t))) in
            omega (arith, differ)

        unseen : (t : ℕ) → not (has seen t) ≡ true → not (has done t) ≡ true
        unseen t e = rw (not_so (has done t) (λ d. false≢true (sym (not-true (has seen t) e) ∙ r.inside t d)))

  -- where `out` has what the state taken leads to, and nothing else
  pub reaching_next : {seen done rest z left out : ℕ} → Reaching seen done rest → Taken rest z left → out < 2 ^ S.n
      → ((a t : ℕ) → S.edge z a t ≡ true → has out t ≡ true)
      → ((t : ℕ) → has out t ≡ true → (a : ℕ) × (S.edge z a t ≡ true))
      → Reaching (bit_or seen out) done left
  reaching_next {seen} {done} {rest} {z} {left} {out} r p fit into from =
      let was : (q : ℕ) → has seen q ≡ true → has (bit_or seen out) q ≡ true = λ q e. rw has_or (or_left (has seen q) _ e) in
      record {
        left = left_next r.left p;
        below = or_lt S.n seen out r.below fit;
        inside = λ q e. was q (r.inside q e);
        starts = λ s e. was s (r.starts s e);
        reached = λ q e. elim (or_cases (has seen q) _ (sym (has_or seen out q) ∙ e)) [
          | inl h ↦ r.reached q h
          | inr h ↦ let (a, d) = from q h in accessible_next {a = a} (r.reached z (r.inside z (next_in r.left p))) d
        ];
        led = λ q a t e d. elim (or_cases (taken done rest q) _ (sym (taken_with r.left p q) ∙ e)) [
          | inl h ↦ was t (r.led q a t h d)
          | inr h ↦ rw has_or (or_right (has seen t) _ (into a t (rw (← eqb-true z q h) at d)))
        ];
      }

-- OVER SUCCESSOR SETS

module _ (x : Successors) where
  pub reached_first : Reaching (means x) x.starts 0 0
  reached_first = record {
    left = left_first x.n 0 x.fit.states (pow_pos x.n);
    below = x.starts_fit;
    inside = λ q e. absurd (false≢true (sym (has_empty q) ∙ e));
    starts = λ s e. e;
    reached = initial_accessible;
    led = λ q a t e. absurd (false≢true (sym (rw (has_empty q)) ∙ e));
  }

  pub reached_next : {seen done rest z left out : ℕ} → Reaching (means x) seen done rest → Taken rest z left
      → out ≡ set_of x.n (led_by x.m x.sets.now z x.m) → Reaching (means x) (bit_or seen out) done left
  reached_next {z = z} {out = out} r p is = reaching_next (means x) r p (rw is (set_of_lt x.n (led_by x.m x.sets.now z x.m))) into from
    where
      into : (a t : ℕ) → (means x).edge z a t ≡ true → has out t ≡ true
      into a t e =
          let (k, g, d) = edge_out x.n x.m x.starts x.sets.now z a t e in
          rw (is, has_set_of, lt-ltb t x.n ((means_within x).to_lt z a t e)) (any_in x.m _ a g d)

      from : (t : ℕ) → has out t ≡ true → (a : ℕ) × ((means x).edge z a t ≡ true)
      from t e =
          let (_, e) = and_out (ltb t x.n) _ (rw (is, has_set_of) at e) in
          let (a, g, d) = any_out x.m _ e in
          (a, edge_is x.n x.m x.starts x.sets.now z a t (next_below r.left p) g ∙ d)

  pub reached_all : {seen done : ℕ} → Reaching (means x) seen done 0 → seen ≡ done → seen ≡ set_of x.n (accessible (means x))
  reached_all r e = reaching_all (means x) r (means_within x) e

-- THE MEMBERS OF WHAT IS REACHED

module _ (S : Semiautomaton) {reached : ℕ} (is : reached ≡ set_of S.n (accessible S)) (q : ℕ) where
  pub reached_out : has reached q ≡ true → Accessible S q
  reached_out e = accessible_out S q (and_out (ltb q S.n) _ (rw (is, has_set_of) at e)).1

  pub reached_in : Within S → q < S.n → Accessible S q → has reached q ≡ true
  reached_in W h c = rw (is, has_set_of, lt-ltb q S.n h) (accessible_in S W q c)
