-- Claims that a plan has no look-ahead: the set that is named, cycles that lead back, and what the parts of a claim come to.
-- Assumes nothing.
use Prim.Native.Nat.{ℕ, ◌+◌, ◌*◌, ◌^◌, ◌≤◌, ◌<◌}
use mathlib.Core.Bool.{Bool, true, false, not, ◌&&◌, ◌||◌, true≢false, false≢true, and-true, and-false}
use mathlib.Core.Option.{some, some-injective}
use mathlib.Core.Path.{◌≡◌, refl, sym, ◌∙◌, subst, fun_ext}
use mathlib.Core.Logic.{◌↔◌, inl, inr}
use mathlib.Core.List.{List, ◌++◌}
use native.Mathlib.Omega.{arith}
use lib.Bits.{bit_and}
use lib.Dec.{eqb, ltb, leb}
use lib.ListN.{length, take, drop, length-drop}
use lib.Pow.{pow-lt}
use lib.Seq.{length-take-le, take-add, take_at}
use Rattle.std.proofs.lemmas.List.{drop-take}
use borrow.Author.Tests.{lt-ltb, le-ltb, ltb-false, leb-true, leb-false, eq-eqb, eqb-true, eqb-false, not-false}
use Rattle.bitset.specs.Sets.{any, single}
use Rattle.bitset.specs.Numbers.{has, set_of}
use Rattle.bitset.proofs.Tests.{and_in, and_out, or_cases, decided, or_none}
use Rattle.bitset.proofs.Below.{any_in, any_not, with_any}
use Rattle.bitset.proofs.Bits.{has_empty, has_lt, set_of_lt, has_set_of, pow_set_of, has_shl, meets_none, meets_some}
use Rattle.semiautomata.specs.Semiautomaton.{Semiautomaton, Within}
use Rattle.semiautomata.specs.Predictability.{Critical, fork, member, named, Counts, Lasso}
use Rattle.semiautomata.specs.Access.{accessible}
use Rattle.semiautomata.specs.Walks.{reach}
use Rattle.semiautomata.specs.Successors.{set_at, successors}
use Rattle.semiautomata.specs.Means.{means}
use Rattle.semiautomata.specs.declared.successors.Successors.{Successors}
use Rattle.semiautomata.proofs.Paths.{path_join, path_lt, path_letters}
use Rattle.semiautomata.proofs.Computed.{reach_in, reach_out}
use Rattle.semiautomata.proofs.Shares.{member_lt}
use Rattle.semiautomata.proofs.BySets.{edge_is}
use Rattle.walks.specs.Walking.{Letters}
use Rattle.walks.proofs.Steps.{means_within, path_any}
use Rattle.walks.proofs.Words.{alone}
use Rattle.walks.proofs.Reaching.{reached_in, reached_out}
use Rattle.lookahead.specs.declared.Evidence.{Evidence}
use Rattle.lookahead.specs.Answers.{TrueOf}
use Rattle.claim.specs.inner.Steps.{NamedSet, LedBack, Loops, Truth}

-- THE SET THAT IS NAMED

-- two numbers that name T: the set has its states if it counts
named_as : (S : Semiautomaton) (q a set : ℕ) (T : Critical) → named S q a ≡ some T
    → ((x : ℕ) → has set x ≡ true → Counts S T × (member S T x ≡ true))
    → (Counts S T → (x : ℕ) → member S T x ≡ true → has set x ≡ true) → NamedSet S q a set
named_as S q a set T is from into = record {
  from = λ x d. let (c, e) = from x d in (T, is, c, e);
  into = λ U d.
      subst (λ (T : Critical). Counts S T → (x : ℕ) → member S T x ≡ true → has set x ≡ true)
      (some-injective T U (sym is ∙ d)) into;
}

module _ (A : Successors) (q a : ℕ) where
  pub on_plan : (leb A.n q || leb A.m a) ≡ false → (q < A.n) × (a < A.m)
  on_plan e = let (h, g) = or_none (leb A.n q) (leb A.m a) e in (leb-false A.n q h, leb-false A.m a g)

  off_plan : (leb A.n q || leb A.m a) ≡ true → (ltb q A.n && ltb a A.m) ≡ false
  off_plan e = elim (or_cases (leb A.n q) (leb A.m a) e) [
    | inl h ↦ rw (le-ltb q A.n (leb-true A.n q h))
    | inr h ↦ rw (le-ltb a A.m (leb-true A.m a h), and-false)
  ]

  module _ (no : (eqb q 255 && eqb a 0) ≡ false) where
    pub named_none : (leb A.n q || leb A.m a) ≡ true → NamedSet (means A) q a 0
    named_none e = record {
      from = λ x d. absurd (false≢true (sym (has_empty x) ∙ d));
      into = λ T d. let z : ◌≡◌ {A = ℕ} 0 1 = cc (rw (no, off_plan e) at d) in absurd (omega arith);
    }

    -- the fork set of a state, which is reached or not
    module _ {reached : ℕ} (is : reached ≡ set_of A.n (accessible (means A))) (h : q < A.n) (g : a < A.m) where
      fork_named : named (means A) q a ≡ some (fork q a)
      fork_named = rw (no, lt-ltb q A.n h, lt-ltb a A.m g) refl

      pub named_unreached : has reached q ≡ false → NamedSet (means A) q a 0
      named_unreached e =
          named_as (means A) q a 0 (fork q a) fork_named (λ x d. absurd (false≢true (sym (has_empty x) ∙ d)))
          (λ (c, _). absurd (false≢true (sym e ∙ reached_in (means A) is q (means_within A) h c)))

      pub named_fork : has reached q ≡ true → NamedSet (means A) q a (set_at A.m A.sets.now q a)
      named_fork e =
          let edge : (x : ℕ) → (means A).edge q a x ≡ has (set_at A.m A.sets.now q a) x =
          λ x. edge_is A.n A.m A.starts A.sets.now q a x h g in
          named_as (means A) q a (set_at A.m A.sets.now q a) (fork q a) fork_named
          (λ x d. let p = edge x ∙ d in ((reached_out (means A) is q e, (x, p)), p)) (λ _ x d. sym (edge x) ∙ d)

-- A CYCLE

-- the word leads back from x to x
unfoldable pub leads_back : Semiautomaton → List ℕ → ℕ → Bool
leads_back S w x = reach S (single x) w x

module _ (A : Successors) (w : List ℕ) where
  module _ {x r : ℕ} (h : x < A.n) (e : r ≡ set_of A.n (reach (means A) (has (alone x)) w)) where
    alone_has : (t : ℕ) → has (alone x) t ≡ single x t
    alone_has t = has_shl 64 x t (omega (arith, A.fit.states))

    reached_at : has r x ≡ leads_back (means A) w x
    unfolding leads_back
    reached_at = rw (e, has_set_of, lt-ltb x A.n h, fun_ext alone_has)

    pub back_hit : ¬ (bit_and r (alone x) ≡ 0) → leads_back (means A) w x ≡ true
    back_hit ne =
        with_any A.n _ (λ t g d.
        let (a, b) = and_out (has r t) (has (alone x) t) d in
        sym reached_at ∙ rw (eqb-true x t (sym (alone_has t) ∙ b)) a)
        (meets_some A.n r (alone x) (rw e (set_of_lt A.n _)) ne)

    pub back_miss : bit_and r (alone x) ≡ 0 → leads_back (means A) w x ≡ false
    back_miss z = sym reached_at ∙ rw (alone_has x, eq-eqb x x refl, and-true) at (any_not A.n _ (meets_none A.n r (alone x) z) x h)

module _ (S : Semiautomaton) (w : List ℕ) (set : ℕ) where
  pub led_yes : any S.n (λ x. has set x && leads_back S w x) ≡ true → LedBack S set w true
  unfolding leads_back
  led_yes e = record {
    yes_so = λ _. with_any S.n _ (λ x _ d.
        let (a, b) = and_out (has set x) _ d in
        let (z, i, p) = reach_out S (single x) w x b in
        (x, a, rw (← eqb-true x z i) at p)) e;
    no_so = λ d. absurd (true≢false d);
  }

  pub led_no : Within S → set < 2 ^ S.n → any S.n (λ x. has set x && leads_back S w x) ≡ false → LedBack S set w false
  unfolding leads_back
  led_no W h e = record {
    yes_so = λ d. absurd (false≢true d);
    no_so = λ _ x i p.
        let b = reach_in S W (single x) w x x (eq-eqb x x refl) p in
        false≢true (sym e ∙ any_in S.n _ x (has_lt S.n set x h i) (and_in _ _ i b));
  }

-- A STEM AND A CYCLE

module _ (A : Successors) {s : ℕ} (h : s < A.n) {one : ℕ} (o : one ≡ set_of 64 (single s)) where
  pub one_lt : one < 2 ^ A.n
  one_lt = rw (o, ← pow_set_of 64 s (omega (arith, A.fit.states))) (pow-lt h)

  one_is : (t : ℕ) → has one t ≡ true → s ≡ t
  one_is t d = eqb-true s t (and_out (ltb t 64) (eqb s t) (rw (o, has_set_of) at d)).1

  one_has : has one s ≡ true
  one_has = rw (o, has_set_of, lt-ltb s 64 (omega (arith, A.fit.states))) (eq-eqb s s refl)

  pub loops : (stem cycle : List ℕ) {reached : ℕ} {r : Bool} → reached ≡ set_of A.n (reach (means A) (has one) stem)
      → LedBack (means A) reached cycle r → Loops (means A) s stem cycle r
  loops stem cycle {reached} {r} e b = record {
    yes_so = λ y.
        let (x, d, p) = b.yes_so y in
        let (z, i, u) = reach_out (means A) (has one) stem x (and_out (ltb x A.n) _ (rw (e, has_set_of) at d)).1 in
        record { knot = x; reached = rw (one_is z i) u; back = p };
    no_so = λ y l.
        let W = means_within A in
        let below = path_lt (means A) W stem s l.knot h l.reached in
        b.no_so y l.knot
        (rw (e, has_set_of, lt-ltb l.knot A.n below) (reach_in (means A) W (has one) stem s l.knot one_has l.reached))
        l.back;
  }

-- WHATEVER THE INITIAL STATES ARE

module _ (A : Successors) where
  pub led_any : {set : ℕ} {w : List ℕ} {r : Bool} → LedBack (means A) set w r → (starts : ℕ)
      → LedBack (successors A.n A.m starts A.sets.now) set w r
  led_any {w = w} l starts = record {
    yes_so = λ y. let (x, d, p) = l.yes_so y in (x, d, path_any A.n A.m A.starts starts A.sets.now w x x p);
    no_so = λ y x d p. l.no_so y x d (path_any A.n A.m starts A.starts A.sets.now w x x p);
  }

  lasso_any : (starts other s : ℕ) (stem cycle : List ℕ) → Lasso (successors A.n A.m starts A.sets.now) s stem cycle
      → Lasso (successors A.n A.m other A.sets.now) s stem cycle
  lasso_any starts other s stem cycle l = record {
    knot = l.knot;
    reached = path_any A.n A.m starts other A.sets.now stem s l.knot l.reached;
    back = path_any A.n A.m starts other A.sets.now cycle l.knot l.knot l.back;
  }

  pub loops_any : {s : ℕ} {stem cycle : List ℕ} {r : Bool} → Loops (means A) s stem cycle r → (starts : ℕ)
      → Loops (successors A.n A.m starts A.sets.now) s stem cycle r
  loops_any {s} {stem} {cycle} l starts = record {
    yes_so = λ y. lasso_any A.starts starts s stem cycle (l.yes_so y);
    no_so = λ y k. l.no_so y (lasso_any starts A.starts s stem cycle k);
  }

-- THE CLAIM

-- the states are out of order, or one is no member; the lengths are none, too many or past the letters
abbrev states_off : Evidence → Bool → Bool → Bool
states_off k low high = (leb k.high k.low || not low) || not high

abbrev lengths_off : ℕ → Evidence → List ℕ → Bool
lengths_off n k letters = (eqb k.cycle 0 || ltb (n * n) (k.stem + k.cycle)) || ltb (length letters) (k.stem + k.cycle)

-- the letters do not end before the lengths do
pub lengths_there : (n : ℕ) (k : Evidence) (letters : List ℕ) → lengths_off n k letters ≡ false → k.stem + k.cycle ≤ length letters
lengths_there n k letters e =
    ltb-false (length letters) (k.stem + k.cycle) (or_none (eqb k.cycle 0 || ltb (n * n) (k.stem + k.cycle)) _ e).1

module _ (k : Evidence) (letters : List ℕ) (h : k.stem + k.cycle ≤ length letters) where
  pub stem_length : length (take k.stem letters) ≡ k.stem
  stem_length = length-take-le k.stem letters (omega arith)

  cycle_length : length (take k.cycle (drop k.stem letters)) ≡ k.cycle
  cycle_length = length-take-le k.cycle (drop k.stem letters) (rw length-drop (omega arith))

  -- the letters of both, parted again
  lead_in : take k.stem (take (k.stem + k.cycle) letters) ≡ take k.stem letters
  lead_in = rw take-add (take_at (take k.stem letters) (take k.cycle (drop k.stem letters)) k.stem stem_length)

  round : drop k.stem (take (k.stem + k.cycle) letters) ≡ take k.cycle (drop k.stem letters)
  round = drop-take k.stem k.cycle letters

module _ {S : Semiautomaton} (W : Within S) (k : Evidence) (letters : List ℕ) where
  pub claimed_letters : TrueOf S k letters → Letters S.m (take (k.stem + k.cycle) letters)
  claimed_letters c =
      let l = c.witness.s_lasso in
      let stem = take k.stem letters in
      let cycle = take k.cycle (drop k.stem letters) in
      let round = path_join S stem cycle k.low l.knot l.knot l.reached l.back in
      rw (take-add k.stem k.cycle letters) (record { below = path_letters S W (stem ++ cycle) k.low l.knot round })

  module _ {set : ℕ} (N : NamedSet S k.state k.letter set) {low high : Bool}
      (low_is : low ≡ has set k.low) (high_is : high ≡ has set k.high) where
    module _ (states : states_off k low high ≡ false) where
      states_are : (k.low < k.high) × (has set k.low ≡ true) × (has set k.high ≡ true)
      states_are =
          let (e, d) = or_none (leb k.high k.low || not low) (not high) states in
          let (o, e) = or_none (leb k.high k.low) (not low) e in
          (leb-false k.high k.low o, sym low_is ∙ not-false low e, sym high_is ∙ not-false high d)

      -- both are states of the plan
      pub states_lt : (k.low < S.n) × (k.high < S.n)
      states_lt =
          let (_, e, d) = states_are in
          let (T, _, _, p) = N.from k.low e in
          let (U, _, _, q) = N.from k.high d in
          (member_lt W T k.low p, member_lt W U k.high q)

      module _ (lengths : lengths_off S.n k letters ≡ false) where
        claimed_by : Lasso S k.low (take k.stem letters) (take k.cycle (drop k.stem letters))
            → Lasso S k.high (take k.stem letters) (take k.cycle (drop k.stem letters)) → TrueOf S k letters
        claimed_by l r =
            let (o, e, d) = states_are in
            let (T, i, c, p) = N.from k.low e in
            let (U, j, _, q) = N.from k.high d in
            let same : U ≡ T = some-injective U T (sym j ∙ i) in
            let (u, w) = or_none (eqb k.cycle 0) _ (or_none (eqb k.cycle 0 || ltb (S.n * S.n) (k.stem + k.cycle)) _ lengths).0 in
            let there = lengths_there S.n k letters lengths in
            record {
              set = T;
              names = i;
              there = there;
              witness = record {
                counts = c;
                s_in = p;
                t_in = rw same at q;
                order = o;
                turns = rw (cycle_length k letters there) (omega (arith, eqb-false k.cycle 0 u));
                short = rw (stem_length k letters there, cycle_length k letters there) (ltb-false (S.n * S.n) (k.stem + k.cycle) w);
                s_lasso = l;
                t_lasso = r;
              };
            }

        pub claimed_answer : {x y : Bool}
            → let word = take (k.stem + k.cycle) letters in Loops S k.low (take k.stem word) (drop k.stem word) x
            → Loops S k.high (take k.stem word) (drop k.stem word) y → Truth S k letters (x && y)
        claimed_answer {x} {y} l r =
            let there = lengths_there S.n k letters lengths in
            let l : Loops S k.low (take k.stem letters) (take k.cycle (drop k.stem letters)) x =
            rw (lead_in k letters there, round k letters there) at l in
            let r : Loops S k.high (take k.stem letters) (take k.cycle (drop k.stem letters)) y =
            rw (lead_in k letters there, round k letters there) at r in (
              λ b. let (b, d) = and_out x y b in claimed_by (l.yes_so b) (r.yes_so d),
              λ b c. elim (decided x) [ inl d ↦ r.no_so (rw d at b) c.witness.t_lasso | inr d ↦ l.no_so d c.witness.s_lasso ],
            )

-- the answer says whether the claim is true
pub says : {S : Semiautomaton} {k : Evidence} {letters : List ℕ} (r : Bool) → Truth S k letters r → (r ≡ true) ↔ TrueOf S k letters
says true t = (t.0, λ _. refl)
says false t = (t.0, λ c. absurd (t.1 refl c))
