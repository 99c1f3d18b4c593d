-- Round by round: the rows hold the pairs that are live for j letters, and a round strikes each of them that ends at the next level.
-- Assumes nothing.
use mathlib.Core.Bool.{Bool, true, false, not, xor, ◌&&◌, false≢true, and-false}
use mathlib.Core.Path.{◌≡◌, refl, sym, ◌∙◌}
use mathlib.Core.Logic.{◌⊎◌, ◌↔◌, inl, inr}
use mathlib.Core.List.{List}
use Prim.Native.Nat.{ℕ, suc, ◌+◌, ◌*◌, ◌%◌, ◌^◌, ◌≤◌, ◌<◌}
use native.Mathlib.Decide.{dec_lt}
use native.Mathlib.Nat.{one-mul, mul-le-mul}
use native.Mathlib.Numerals.{add-one}
use native.Mathlib.Omega.{arith}
use lib.Bits.{bit_or, or_shifted_r}
use lib.Dec.{ltb, leb}
use lib.ListN.{replicate, get_or, get_or-replicate}
use borrow.Author.Tests.{lt-ltb, le-ltb, le-leb, lt-leb, leb-true, not-true}
use Rattle.bitset.specs.Sets.{any}
use Rattle.bitset.specs.Numbers.{has, set_of}
use Rattle.bitset.proofs.Tests.{and_in, and_out, not_so, decided, same_test}
use Rattle.bitset.proofs.Below.{any_in, any_out, any_not, any_none, any_cong, with_any}
use Rattle.bitset.proofs.Bits.{has_empty, has_high, has_set_of, set_of_lt, some_member, fits, shl_one}
use Rattle.semiautomata.specs.Semiautomaton.{Semiautomaton, Within}
use Rattle.semiautomata.specs.Predictability.{Share}
use Rattle.semiautomata.specs.Levels.{live, Repeats}
use Rattle.semiautomata.specs.Sizes.{endless}
use Rattle.semiautomata.specs.Successors.{set_at}
use Rattle.semiautomata.specs.Means.{means}
use Rattle.semiautomata.specs.declared.successors.Successors.{Successors}
use Rattle.semiautomata.proofs.Shares.{share_swap, share_shorter}
use Rattle.semiautomata.proofs.Levels.{with_and, live_in, live_out, live_fixed}
use Rattle.semiautomata.proofs.Lassos.{share_ever, live_ever}
use Rattle.semiautomata.proofs.BySets.{edge_out, edge_is}
use Rattle.rows.specs.Rows.{pair, Without, Union, Common, Apart}
use Rattle.rows.specs.Turned.{Turned}
use Rattle.semiautomata.proofs.Places.{place_fits, zeros_at, blank}
use Rattle.walks.proofs.Steps.{means_within}
use Rattle.pairs.specs.Sharing.{leads, Level, LastLevel, Sharing, Lasting}
use Rattle.pairs.specs.inner.Rounds.{Fits, led_on, dying, falls, Struck, Paired, Waking, Ends, At, Standing}
use Rattle.pairs.proofs.Leading.{leads_in, leads_out}

-- the list of work has each pair of the rows that is led on to no pair of them
pub record Covers (S : Semiautomaton) (rows look : List ℕ) : Type 0 where
  pub covers : (s t : ℕ) → s < S.n → t < S.n → pair rows s t ≡ true → leads S rows s t ≡ false → pair look s t ≡ true

-- x is live now, y at the next level, w in the list of work: what is struck, and what is left
struck_is : (x y w : Bool) → (x ≡ true → y ≡ false → w ≡ true) → (w && x && not y) ≡ (x && not y)
struck_is x y true g = refl
struck_is x y false g = sym (not_so _ λ e. let (p, q) = and_out x _ e in false≢true (g p (not-true y q)))

left_is : (x y : Bool) → (y ≡ true → x ≡ true) → (xor x y ≡ (x && not y)) × (xor x (x && not y) ≡ y)
unfolding xor
left_is true true f = (refl, refl)
left_is true false f = (refl, refl)
left_is false true f = absurd (false≢true (f refl))
left_is false false f = (refl, refl)

-- two tests have members exactly if some two numbers pass them
any_both : (n : ℕ) (p q : ℕ → Bool) → (any n p && any n q) ≡ any n λ r. any n λ u. p r && (q u && true)
any_both n p q = same_test _ _
    (λ e.
    let (x, y) = and_out (any n p) _ e in
    let (r, hr, f) = any_out n p x in
    let (u, hu, g) = any_out n q y in
    any_in n _ r hr (any_in n _ u hu (and_in _ _ f (and_in _ _ g refl))))
    (with_any n _ λ r hr. with_any n _ λ u hu. with_and _ _ λ f. with_and _ _ λ g _. and_in _ _ (any_in n _ r hr f) (any_in n _ u hu g))

-- a union of rows that is not empty has some pair
some_pair : (n : ℕ) (p : ℕ → ℕ → Bool) (u : ℕ) → ((t : ℕ) → has u t ≡ any n (λ s. p s t)) → ((s t : ℕ) → s < n → n ≤ t → p s t ≡ false)
    → ¬ (u ≡ 0) → (s : ℕ) × (t : ℕ) × (s < n) × (t < n) × (p s t ≡ true)
some_pair n p u is few ne =
    let low = fits n u λ t g. is t ∙ any_none n _ (λ s h. few s t h g) in
    let (t, ht, e) = any_out n _ (some_member n u (omega (arith, ne)) low) in
    let (s, hs, f) = any_out n _ (sym (is t) ∙ e) in
    (s, t, hs, ht, f)

module _ (A : Successors) where
  abbrev S : Semiautomaton
  S = means A

  W : Within S
  W = means_within A

  live_less : (j s t : ℕ) → live S (suc j) s t ≡ true → live S j s t ≡ true
  live_less j s t e = live_in S W (share_shorter (omega arith) (live_out S (suc j) s t e))

  live_sym : (j s t : ℕ) → live S j s t ≡ live S j t s
  live_sym j s t = same_test _ _ (λ e. live_in S W (share_swap (live_out S j s t e))) (λ e. live_in S W (share_swap (live_out S j t s e)))

  -- LEVELS BY THE TEST THAT COMPUTES
  dies : (j s t : ℕ) → (Share S j s t × ¬ Share S (suc j) s t) ↔ ((live S j s t && not (live S (suc j) s t)) ≡ true)
  dies j s t = (
    λ (x, y). rw (live_in S W x, not_so _ (λ e. y (live_out S (suc j) s t e))),
    λ e.
        let (x, y) = and_out (live S j s t) _ e in
        (live_out S j s t x, λ h. false≢true (sym (not-true _ y) ∙ live_in S W h)),
  )

  module _ {j : ℕ} {rows : List ℕ} where
    level_by : ((s t : ℕ) → s < A.n → t < A.n → pair rows s t ≡ live S j s t) → Level S j rows
    level_by f = record { is = λ s t hs ht. (λ e. live_out S j s t (sym (f s t hs ht) ∙ e), λ h. f s t hs ht ∙ live_in S W h) }

    level_is : Level S j rows → (s t : ℕ) → s < A.n → t < A.n → pair rows s t ≡ live S j s t
    level_is L s t hs ht = same_test _ _ (λ e. live_in S W ((L.is s t hs ht).0 e)) (λ e. (L.is s t hs ht).1 (live_out S j s t e))

    last_by : ((s t : ℕ) → s < A.n → t < A.n → pair rows s t ≡ (live S j s t && not (live S (suc j) s t))) → LastLevel S j rows
    last_by f = record { is = λ s t hs ht. (λ e. (dies j s t).1 (sym (f s t hs ht) ∙ e), λ d. f s t hs ht ∙ (dies j s t).0 d) }

    last_is : LastLevel S j rows → (s t : ℕ) → s < A.n → t < A.n → pair rows s t ≡ (live S j s t && not (live S (suc j) s t))
    last_is L s t hs ht = same_test _ _ (λ e. (dies j s t).0 ((L.is s t hs ht).0 e)) (λ e. (L.is s t hs ht).1 ((dies j s t).1 e))

  -- the search finds what is live for one letter more
  leads_live : {j : ℕ} {rows : List ℕ} → Level S j rows → (s t : ℕ) → leads S rows s t ≡ live S (suc j) s t
  unfolding leads live
  leads_live L s t = any_cong A.m _ _ λ a _. any_cong A.n _ _ λ r hr. any_cong A.n _ _ λ u hu. rw (level_is L r u hr hu)

  -- THE FIRST ROUND, letter by letter

  leads_on : {a s : ℕ} → a < A.m → s < A.n → any A.n (S.edge s a) ≡ any A.n (has (set_at A.m A.sets.now s a))
  leads_on {a} {s} ha hs = any_cong A.n _ _ λ t _. edge_is A.n A.m A.starts A.sets.now s a t hs ha

  -- of the states that a letter leads on, those below s are put in: s is one too, or not
  module _ {a s out : ℕ} (ha : a < A.m) (hs : s < A.n) (e : out ≡ led_on S s a) where
    pub led_on_with : ¬ (set_at A.m A.sets.now s a ≡ 0) → bit_or out ((1 * 2 ^ s) % 2 ^ 64) ≡ led_on S (s + 1) a
    unfolding set_of
    led_on_with ne =
        let on : any A.n (S.edge s a) ≡ true =
        leads_on ha hs ∙ some_member A.n (set_at A.m A.sets.now s a) (omega (arith, ne)) (place_fits A.fit s a hs ha) in
        let low : out < 2 ^ s = rw e (set_of_lt s _) in
        rw (add-one, on, shl_one 64 s (omega (arith, A.fit.states)), ← one-mul (2 ^ s), or_shifted_r 1 s out low) (omega (arith, e))

    pub led_on_without : set_at A.m A.sets.now s a ≡ 0 → out ≡ led_on S (s + 1) a
    unfolding set_of
    led_on_without z =
        let off : any A.n (S.edge s a) ≡ false =
        leads_on ha hs ∙ any_none A.n (has (set_at A.m A.sets.now s a)) (λ t _. rw z (has_empty t)) in
        rw (add-one, e, off) (omega arith)

  led_on_is : (a s : ℕ) → s < A.n → has (led_on S A.n a) s ≡ any A.n (S.edge s a)
  led_on_is a s hs = rw (has_set_of, lt-ltb s A.n hs)

  module _ {rows : List ℕ} (k : Paired (replicate 64 0) rows (led_on S A.n) (led_on S A.n) A.m) where
    shares : (s t : ℕ) → pair rows s t ≡ any A.m (λ a. has (led_on S A.n a) s && has (led_on S A.n a) t)
    shares s t = k.is s t ∙ rw (zeros_at 64 s, has_empty t)

    pub level_one : Level S 1 rows
    unfolding live
    level_one = level_by λ s t hs ht. shares s t ∙ any_cong A.m _ _ λ a ha.
        rw (led_on_is a s hs, led_on_is a t ht) (any_both A.n (S.edge s a) (S.edge t a))

    pub one_fits : Fits A.n rows
    one_fits s h = fits A.n _ λ t g. shares s t ∙ any_none A.m _ λ a ha. rw (has_high A.n (led_on S A.n a) t (set_of_lt A.n _) g, and-false)

  module _ {all : ℕ} (e : all ≡ set_of 64 (λ t. ltb t A.n)) where
    every : (t : ℕ) → t < A.n → has all t ≡ true
    every t h = rw (e, has_set_of, lt-ltb t A.n h, lt-ltb t 64 (omega (arith, A.fit.states)))

    all_fits : all < 2 ^ A.n
    all_fits = fits A.n all λ t g. rw (e, has_set_of, le-ltb t A.n g, and-false)

    -- level 0 has every pair
    pub level_zero : Level S 0 (replicate 64 all)
    unfolding live
    level_zero = level_by λ s t hs ht. rw (get_or-replicate 64 s all 0 (omega (arith, A.fit.states))) (every t ht)

    -- what is struck is the rest
    pub first_ends : {rows struck : List ℕ} {gone : ℕ} → Level S 1 rows → Fits A.n rows → Without (replicate 64 all) rows struck A.n
        → Union struck gone A.n → Ends S 0 struck gone
    unfolding xor
    first_ends {rows} {struck} {gone} L f w u = record {
      last = last_by λ s t hs ht. w.is s t hs
          ∙ rw (level_is level_zero s t hs ht, level_is L s t hs ht) (left_is (live S 0 s t) (live S 1 s t) (live_less 0 s t)).0;
      fits = low;
      none = λ z s t hs ht. any_not A.n _ (sym (u.is t) ∙ rw z (has_empty t)) s hs;
      some = λ ne. some_pair A.n (pair struck) gone u.is (λ s t h g. has_high A.n _ t (low s h) g) ne;
    }
      where
        low : Fits A.n struck
        low s h = fits A.n _ λ t g. w.is s t h ∙ rw (
          get_or-replicate 64 s all 0 (omega (arith, A.fit.states)),
          has_high A.n all t all_fits g,
          has_high A.n (get_or rows s 0) t (f s h) g,
        )

  -- A ROUND BY A LIST OF WORK

  module _ {j : ℕ} {rows look struck : List ℕ} {gone : ℕ}
      (L : Level S j rows) (C : Covers S rows look) (k : Struck S rows look struck gone A.n) where
    dying_is : (s t : ℕ) → s < A.n → t < A.n → dying S rows look s t ≡ (live S j s t && not (live S (suc j) s t))
    dying_is s t hs ht =
        struck_is (pair rows s t) (leads S rows s t) (pair look s t) (C.covers s t hs ht) ∙ rw (level_is L s t hs ht, leads_live L s t)

    -- a pair that ends falls, in one order or the other
    fallen : (s t : ℕ) → s < A.n → t < A.n → (live S j s t && not (live S (suc j) s t)) ≡ true
        → (falls S rows look s t ≡ true) ⊎ (falls S rows look t s ≡ true)
    fallen s t hs ht e = elim (dec_lt s t) [
      | yes h ↦ inr (and_in _ _ (le-leb s t (omega arith)) (dying_is t s ht hs ∙ rw (live_sym j t s, live_sym (suc j) t s) e))
      | no h ↦ inl (and_in _ _ (le-leb t s (omega arith)) (dying_is s t hs ht ∙ e))
    ]

    ends : (s t : ℕ) → s < A.n → t < A.n → falls S rows look s t ≡ true → (live S j s t && not (live S (suc j) s t)) ≡ true
    ends s t hs ht e = sym (dying_is s t hs ht) ∙ (and_out (leb t s) _ e).1

    pub round_ends : Ends S j struck gone
    round_ends = record {
      last = last_by {j = j} {rows = struck} λ s t hs ht. same_test _ _
          (λ e. elim (k.only s t e) [
            | inl (h, f) ↦ ends s t hs ht f
            | inr (h, f) ↦ rw (live_sym j s t, live_sym (suc j) s t) (ends t s ht hs f)
          ])
          (λ e. elim (fallen s t hs ht e) [ inl f ↦ (k.both s t hs f).0 | inr f ↦ (k.both t s ht f).1 ]);
      fits = λ s h. fits A.n _ λ t g. not_so _ λ e. elim (k.only s t e) [
        | inl (_, f) ↦ let l : t ≤ s = leb-true t s (and_out (leb t s) _ f).0 in absurd (omega arith)
        | inr (l, f) ↦ absurd (omega arith)
      ];
      none = λ z s t hs ht. not_so _ λ e. elim (k.only s t e) [
        | inl (_, f) ↦ absurd (never z s t hs f)
        | inr (_, f) ↦ absurd (never z t s ht f)
      ];
      some = λ ne.
          let (s, t, hs, ht, f) = some_pair A.n (falls S rows look) gone k.some (λ s t h g. rw (lt-leb t s (omega arith))) ne in
          (s, t, hs, ht, (k.both s t hs f).0);
    }
      where
        never : gone ≡ 0 → (s t : ℕ) → s < A.n → ¬ (falls S rows look s t ≡ true)
        never z s t hs f = false≢true (sym (rw z (has_empty t)) ∙ k.some t ∙ any_in A.n _ s hs f)

  -- WHAT FOLLOWS FROM THE PAIRS STRUCK

  module _ {j : ℕ} {struck : List ℕ} {gone : ℕ} (E : Ends S j struck gone) where
    pub level_next : {rows next : List ℕ} → Level S j rows → Without rows struck next A.n → Level S (suc j) next
    level_next L w = level_by λ s t hs ht. w.is s t hs
        ∙ rw (last_is E.last s t hs ht, level_is L s t hs ht) (left_is (live S j s t) (live S (suc j) s t) (live_less j s t)).1

    pub covers_next : {back : Successors} {rows next woken : List ℕ} → back.m ≡ A.m → Level S j rows → Level S (suc j) next
        → Turned A back.sets.now → Waking back struck woken A.n → Covers S next woken
    covers_next {back} {rows} {next} same L N T w = record {
      covers = λ s t hs ht x y.
          let (a, r, u, ha, hr, hu, l) = leads_out S rows s t (leads_live L s t ∙ sym (level_is N s t hs ht) ∙ x) in
          let dead : live S (suc j) r u ≡ false = not_so _ λ e.
          let on : leads S next s t ≡ true =
          leads_in S next s t ha hr hu (record { first = l.first; second = l.second; lives = level_is N r u hr hu ∙ e }) in
          false≢true (sym y ∙ on) in
          let comes : (q x : ℕ) → S.edge q a x ≡ true → has (set_at back.m back.sets.now x a) q ≡ true = λ q x e.
          let (hq, ha, f) = edge_out A.n A.m A.starts A.sets.now q a x e in rw (same, T.is x a ha, has_set_of, lt-ltb q A.n hq) f in
          let gone : pair struck r u ≡ true = last_is E.last r u hr hu ∙ rw (sym (level_is L r u hr hu) ∙ l.lives, dead) in
          w.wakes r u a s t hr gone (rw same ha) (comes s r l.first) (comes t u l.second);
    }

    -- none is struck: the level repeats
    level_repeats : gone ≡ 0 → Repeats S j
    level_repeats z s t hs ht = same_test _ _ (live_less j s t) λ x. elim (decided (live S (suc j) s t)) [
      | inl y ↦ y
      | inr y ↦ absurd (false≢true (sym (E.none z s t hs ht) ∙ last_is E.last s t hs ht ∙ rw (x, y)))
    ]

    pub lasting : {rows : List ℕ} → Level S j rows → gone ≡ 0 → Lasting S rows
    lasting L z = record {
      share = λ s t hs ht e i.
          let on : live S (j + i) s t ≡ true =
          live_fixed S j (level_repeats z) (j + i) (omega arith) s t hs ht ∙ sym (level_is L s t hs ht) ∙ e in
          share_shorter (omega arith) (live_out S (j + i) s t on);
      shared = λ s t hs ht f. (L.is s t hs ht).1 (f j);
    }

    -- some are struck: it is one of the first n × n rounds
    pub round_early : ¬ (gone ≡ 0) → j < A.n * A.n
    round_early ne = elim (dec_lt j (A.n * A.n)) [
      | yes h ↦ h
      | no h ↦
          let (s, t, hs, ht, e) = E.some ne in
          let (x, y) = and_out (live S j s t) _ (sym (last_is E.last s t hs ht) ∙ e) in
          let long : live S (A.n * A.n) s t ≡ true = live_in S W (share_shorter (omega arith) (live_out S j s t x)) in
          absurd (false≢true (rw (live_ever S W s t hs ht long (suc j)) at y))
    ]

    -- a number of a pair is never so large
    pub round_few : ¬ (gone ≡ 0) → suc j < endless
    round_few ne = omega (arith, round_early ne, mul-le-mul A.fit.states A.fit.states)

  -- FROM ROUND TO ROUND

  -- the list of work is what the pairs struck in the last round wake
  pub next_ends : {back : Successors} {rounds : ℕ} {live turned struck look next : List ℕ} {gone : ℕ} → back.m ≡ A.m
      → Standing A rounds live turned struck → Turned A back.sets.now → Waking back struck look A.n → Struck S live look next gone A.n
      → Ends S rounds next gone
  next_ends same i is w k =
      let E = i.at.ends in
      let next = level_next E i.at.level i.left in
      rw i.next (round_ends next (covers_next E same i.at.level next is w) k)

  pub at_first : {all : ℕ} → all ≡ set_of 64 (λ t. ltb t A.n) → {struck : List ℕ} {gone : ℕ} → Ends S 0 struck gone
      → At A (replicate 64 all) struck (replicate 2048 0) gone 0
  at_first e ends = record {
    level = level_zero e;
    ends = ends;
    fresh = λ _. blank _;
    turned = λ h. absurd (omega arith);
  }

  -- what the last round struck is taken out
  module _ {rows struck back : List ℕ} {gone j : ℕ} (i : At A rows struck back gone j) {next : List ℕ}
      (w : Without rows struck next A.n) where
    pub standing : Standing A (suc j) next back struck
    standing = record { last = j; rows = rows; gone = gone; at = i; left = w; next = refl }

    pub level_left : Level S (suc j) next
    level_left = level_next i.ends i.level w

    pub at_next : {struck' back' : List ℕ} {gone' : ℕ} → Ends S (suc j) struck' gone' × Turned A back'
        → At A next struck' back' gone' (suc j)
    at_next (e, is) = record {
      level = level_left;
      ends = e;
      fresh = λ z. absurd (omega arith);
      turned = λ _. is;
    }

  -- RIVALS AMONG THE LIVE PAIRS

  module _ {j : ℕ} {rows rival : List ℕ} (L : Level S j rows) where
    pub some_sharing : {low high : ℕ} → Common A.n rows rival low high → Sharing S rival j
    some_sharing {low} {high} c = record {
      low = low;
      high = high;
      order = c.order;
      below = c.below;
      paired = c.rivals;
      shared = (L.is high low c.below (omega (arith, c.order, c.below))).0 c.lives;
    }

    pub no_sharing : Apart rows rival A.n → ¬ Sharing S rival j
    no_sharing a h =
        let e = (L.is h.high h.low h.below (omega (arith, h.order, h.below))).1 h.shared in
        a.none h.high h.below h.low h.order e h.paired

  -- a pair that lives for ever is led on to such a pair
  pub lasting_on : {rows : List ℕ} → Lasting S rows → (s t : ℕ) → s < A.n → t < A.n → pair rows s t ≡ true → leads S rows s t ≡ true
  lasting_on {rows} l s t hs ht e = leads_live (level_by is) s t ∙ live_in S W (l.share s t hs ht e (suc (A.n * A.n)))
    where
      is : (s t : ℕ) → s < A.n → t < A.n → pair rows s t ≡ live S (A.n * A.n) s t
      is s t hs ht = same_test _ _
          (λ e. live_in S W (l.share s t hs ht e (A.n * A.n)))
          (λ e. l.shared s t hs ht (share_ever S W s t hs ht (live_out S (A.n * A.n) s t e)))
