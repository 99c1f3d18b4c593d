-- The position that is due, and the answers to a letter and to opening, test by test.
-- Assumes nothing.
use Prim.Native.Nat.{ℕ, suc, ◌+◌, ◌-◌, ◌≤◌, ◌<◌}
use mathlib.Core.Bool.{Bool, true, false, ◌&&◌, and-true}
use mathlib.Core.Path.{◌≡◌, sym, ◌∙◌, ap}
use mathlib.Core.Logic.{◌⊎◌, inl, inr}
use mathlib.Core.List.{List, [], ◌∷◌, ◌++◌}
use native.Mathlib.Numerals.{add-one}
use native.Mathlib.Omega.{arith}
use lib.Dec.{eqb, ltb}
use lib.ListN.{length, take, drop, take-append-drop}
use lib.Seq.{take-length, take-append-le, drop-append-le}
use borrow.Author.Tests.{lt-ltb, le-ltb, le-leb, lt-leb, eqb-true, eqb-false, ltb-true, ltb-false}
use Rattle.bitset.specs.Sets.{any, size}
use Rattle.bitset.specs.Numbers.{has, set_of}
use Rattle.bitset.proofs.Tests.{and_in, and_out, decided, same_test}
use Rattle.bitset.proofs.Below.{any_out, any_none, size_cong, Sole, size_sole, least_sole}
use Rattle.bitset.proofs.Bits.{has_empty, has_high, fits, some_member, set_of_lt, set_of_has, has_set_of, is_set_of, set_of_cong}
use Rattle.bitset.proofs.Counts.{ones_size}
use Rattle.semiautomata.specs.Semiautomaton.{Semiautomaton, Within}
use Rattle.semiautomata.specs.Walks.{spells, step, reach, survivors, walkable, possible}
use Rattle.semiautomata.specs.Successors.{successors}
use Rattle.semiautomata.specs.Means.{means}
use Rattle.semiautomata.specs.declared.successors.Successors.{Successors}
use Rattle.streaming.specs.Calls.{Reply, refused, nothing}
use Rattle.streaming.specs.PlainWalk.{limit}
use Rattle.streaming.specs.Streaming.{base, sound, sole_at, resolve, settle, opened}
use Rattle.semiautomata.proofs.Computed.{reach_out, spells_in, reach_append, walkable_reach}
use Rattle.semiautomata.proofs.Paths.{path_lt}
use Rattle.streaming.proofs.Streaming.{length_snoc}
use Rattle.walks.proofs.Steps.{means_within, possible_any, step_members}
use Rattle.walks.proofs.Words.{some_of, none_of, possible_last}
use Rattle.records.specs.Bytes.{decode, tidy}
use Rattle.deciding.specs.Deciding.{resolving, opening, decision}
use Rattle.deciding.specs.inner.Parts.{due_after}
use Rattle.deciding.proofs.Standing.{base_below, Standing}

-- THE POSITION THAT IS DUE

module _ (S : Semiautomaton) (X : ℕ → Bool) (u : List ℕ) (a : ℕ) where
  -- k letters follow it: the members of what is reached before it that can walk these
  pub due_set : (i : ℕ) → i ≤ length u → {here out : ℕ} → here ≡ set_of S.n (reach S X (take i u))
      → out ≡ set_of S.n (survivors S (has here) (drop i u ++ (a ∷ [])))
      → out ≡ set_of S.n (possible S X (u ++ (a ∷ [])) i)
  unfolding possible
  due_set i h e d = d ∙ set_of_cong S.n _ _
      (λ t g. rw (take-append-le i u (a ∷ []) h, drop-append-le i u (a ∷ []) h, e, has_set_of, lt-ltb t S.n g))

  -- the only state that is reached before it can walk these, where some state can walk all letters
  pub due_sole : Within S → ((s : ℕ) → X s ≡ true → s < S.n) → (i : ℕ) → i ≤ length u → {here next : ℕ}
      → here ≡ set_of S.n (reach S X (take i u)) → size S.n (has here) ≡ 1
      → next ≡ set_of S.n (reach S X (u ++ (a ∷ []))) → ¬ (next ≡ 0) → here ≡ set_of S.n (possible S X (u ++ (a ∷ [])) i)
  unfolding possible
  due_sole W below i h {here} e one d z =
      let w = u ++ (a ∷ []) in
      let (t, _, r) = any_out S.n _ (some_of S.n (reach S X w) d z) in
      let on : reach S (reach S X (take i w)) (drop i w) t ≡ true = rw (← reach_append S X (take i w) (drop i w), take-append-drop i w) r in
      let (s, r, p) = reach_out S (reach S X (take i w)) (drop i w) t on in
      let (x, from, q) = reach_out S X (take i w) s r in
      let hs = path_lt S W (take i w) x s (below x from) q in
      let (y, sole) = size_sole S.n (has here) one in
      let is : (v : ℕ) → v < S.n → has here v ≡ reach S X (take i w) v =
      λ v g. rw (e, has_set_of, lt-ltb v S.n g, take-append-le i u (a ∷ []) h) in
      let same : s ≡ y = sole.only s hs (is s hs ∙ r) in
      is_set_of S.n _ here (rw e (set_of_lt S.n _)) λ v g. same_test _ _
      (λ f. let v-is : v ≡ s = sole.only v g f ∙ sym same in and_in _ _ (sym (is v g) ∙ f) (rw v-is (spells_in S W (drop i w) s (t, p))))
      (λ f. is v g ∙ (and_out (reach S X (take i w) v) _ f).0)

  -- none follows it: what all letters lead to
  pub due_last : {next : ℕ} → next ≡ set_of S.n (reach S X (u ++ (a ∷ [])))
      → next ≡ set_of S.n (possible S X (u ++ (a ∷ [])) (suc (length u)))
  due_last e = e ∙ set_of_cong S.n _ _ (λ t _. rw (take-length (u ++ (a ∷ [])), length_snoc u a) at (possible_last S X (u ++ (a ∷ [])) t))

-- what is due does not depend on the initial states
pub due_any : (x : Successors) (k base : ℕ) (held : List ℕ) (a : ℕ) {out : ℕ} → out ≡ due_after (means x) k base held a → (starts : ℕ)
    → out ≡ due_after (successors x.n x.m starts x.sets.now) k base held a
due_any x k base held a e starts =
    e ∙ set_of_cong x.n _ _
    (λ t _. possible_any x.n x.m x.starts starts x.sets.now (has base) (held ++ (a ∷ [])) (suc (length held) - k) t)

-- one member of a set below n, among 64
sole_wide : (n : ℕ) (p : ℕ → Bool) → n ≤ 64 → (x : ℕ) → Sole n p x → Sole 64 (has (set_of n p)) x
sole_wide n p h x s = record {
  below = omega (arith, s.below);
  member = rw (has_set_of, lt-ltb x n s.below) s.member;
  only = λ y g e. let (a, b) = and_out (ltb y n) (p y) (rw has_set_of at e) in s.only y (ltb-true y n a) b;
}

size_wide : (n : ℕ) (p : ℕ → Bool) → n ≤ 64 → size 64 (has (set_of n p)) ≡ size n p
size_wide n p h =
    sym (ones_size 64 (set_of n p) (fits 64 (set_of n p) (λ t g. has_high n (set_of n p) t (set_of_lt n p) (omega arith))))
    ∙ ones_size n (set_of n p) (set_of_lt n p) ∙ size_cong n _ _ (λ t g. rw (has_set_of, lt-ltb t n g))

pub resolving_is : (S : Semiautomaton) → S.n ≤ 64 → (X : ℕ → Bool) (w : List ℕ) (i position : ℕ) {set : ℕ}
    → set ≡ set_of S.n (possible S X w i)
    → resolving position set ≡ resolve position (sole_at S X w i)
unfolding resolving sole_at
resolving_is S small X w i position {set} e = go (decided (eqb (size S.n (possible S X w i)) 1))
  where
    go : (eqb (size S.n (possible S X w i)) 1 ≡ true) ⊎ (eqb (size S.n (possible S X w i)) 1 ≡ false)
        → resolving position set ≡ resolve position (sole_at S X w i)
    go (inr q) = rw (resolving, e, size_wide S.n (possible S X w i) small, sole_at, q)
    go (inl q) =
        let (x, s) = size_sole S.n (possible S X w i) (eqb-true _ _ q) in
        let v = sole_wide S.n (possible S X w i) small x s in
        let at = least_sole S.n (possible S X w i) x s in
        rw (resolving, e, least_sole 64 _ x v, size_wide S.n (possible S X w i) small, sole_at, q, at)

-- A LETTER, where neither 8 nor 9 applies

pub judged_10 : (S : Semiautomaton) (k : ℕ) (bytes : List ℕ) (a : ℕ) → (tidy k bytes && sound S k (decode bytes)) ≡ false
    → refused 10 ≡ (decision S k bytes a).reply
unfolding decision
judged_10 S k bytes a e = rw e

-- what the held letters and the new one lead to
pub reached : {S : Semiautomaton} {k here : ℕ} {bytes : List ℕ} → Standing S k bytes here → (a : ℕ) {next : ℕ}
    → next ≡ set_of S.n (step S (has here) a)
    → next ≡ set_of S.n (reach S (base S k (decode bytes)) ((decode bytes).held ++ (a ∷ [])))
reached {S} {k} {bytes = bytes} s a e =
    e
    ∙ set_of_cong S.n _ _ (λ t _. ap (λ (x : ℕ). step S (has x) a t) s.is
    ∙ step_members S (reach S (base S k (decode bytes)) (decode bytes).held) a t)
    ∙ ap (set_of S.n) (sym (reach_append S (base S k (decode bytes)) (decode bytes).held (a ∷ [])))

-- the same from the base as a number
pub reached_from : {S : Semiautomaton} {k here : ℕ} {bytes : List ℕ} → Standing S k bytes here → (from : ℕ) → has from ≡ base S k (decode bytes)
    → {part : List ℕ} → part ≡ (decode bytes).held → (a : ℕ) {next : ℕ} → next ≡ set_of S.n (step S (has here) a)
    → next ≡ set_of S.n (reach S (has from) (part ++ (a ∷ [])))
reached_from s from is held a e = rw (is, held) (reached s a e)

module _ (x : Successors) {k here : ℕ} {bytes : List ℕ} (s : Standing (means x) k bytes here) (a : ℕ) where
  abbrev S : Semiautomaton
  S = means x

  pub judged_11 : limit ≤ (decode bytes).fed → refused 11 ≡ (decision S k bytes a).reply
  unfolding decision
  judged_11 h = rw (s.tidied, s.is_sound, le-leb limit (decode bytes).fed h)

  module _ (h : (decode bytes).fed < limit) where
    pub judged_12 : S.m ≤ a → refused 12 ≡ (decision S k bytes a).reply
    unfolding decision
    judged_12 g = rw (s.tidied, s.is_sound, lt-leb limit (decode bytes).fed h, le-leb S.m a g)

    module _ (g : a < S.m) {next : ℕ} (step_is : next ≡ set_of S.n (step S (has here) a)) where
      walks : walkable S (base S k (decode bytes)) ((decode bytes).held ++ (a ∷ [])) ≡ any S.n
          (reach S (base S k (decode bytes)) ((decode bytes).held ++ (a ∷ [])))
      walks = walkable_reach S (means_within x) (base S k (decode bytes)) (base_below x k (decode bytes) s.keeps.last_lt)
          ((decode bytes).held ++ (a ∷ []))

      pub judged_13 : next ≡ 0 → refused 13 ≡ (decision S k bytes a).reply
      unfolding decision
      judged_13 z =
          let none = walks ∙ none_of S.n _ (reached s a step_is) z in
          rw (s.tidied, s.is_sound, lt-leb limit (decode bytes).fed h, lt-leb S.m a g, none)

      module _ (some : ¬ (next ≡ 0)) where
        settles : (decision S k bytes a).reply ≡ settle S k (base S k (decode bytes)) (suc (decode bytes).fed)
            ((decode bytes).held ++ (a ∷ []))
        unfolding decision
        settles =
            let on = walks ∙ some_of S.n _ (reached s a step_is) some in
            rw (s.tidied, s.is_sound, lt-leb limit (decode bytes).fed h, lt-leb S.m a g, on)

        pub judged_nothing : suc (decode bytes).fed < k → nothing ≡ (decision S k bytes a).reply
        unfolding settle
        judged_nothing l = rw (settles, settle, lt-ltb (suc (decode bytes).fed) k l)

        pub judged_resolved : k ≤ suc (decode bytes).fed → (from : ℕ) → has from ≡ base S k (decode bytes)
            → {set fed : ℕ} {part : List ℕ} → part ≡ (decode bytes).held
            → set ≡ set_of S.n (possible S (has from) (part ++ (a ∷ [])) (suc (length part) - k)) → fed ≡ (decode bytes).fed
            → (reply : Reply) → reply ≡ resolving (fed + 1 - k) set
            → reply ≡ (decision S k bytes a).reply
        unfolding settle
        judged_resolved l from is {set} {fed} {part} q e f reply d =
            let same : set ≡ set_of S.n
            (possible S (base S k (decode bytes)) ((decode bytes).held ++ (a ∷ [])) (length ((decode bytes).held ++ (a ∷ [])) - k)) =
            rw (length_snoc (decode bytes).held a) (rw (is, q) at e) in
            d ∙ rw (f, add-one (decode bytes).fed)
            (resolving_is S x.fit.states (base S k (decode bytes)) ((decode bytes).held ++ (a ∷ []))
            (length ((decode bytes).held ++ (a ∷ [])) - k) (suc (decode bytes).fed - k) same
            ∙ rw (settles, settle, le-ltb (suc (decode bytes).fed) k l))

-- OPENING

module _ (x : Successors) (k : ℕ) where
  start_set : x.starts ≡ set_of x.n (possible (means x) (has x.starts) [] 0)
  unfolding possible spells
  start_set = sym (set_of_has x.n x.starts x.starts_fit) ∙ set_of_cong x.n _ _ (λ t _. sym (and-true (has x.starts t)))

  pub opening_is : opening k x.starts ≡ (opened (means x) k).reply
  unfolding opening opened settle
  opening_is = go (decided (eqb x.starts 0)) (decided (ltb 0 k))
    where
      some : eqb x.starts 0 ≡ false → any x.n (has x.starts) ≡ true
      some e = some_member x.n x.starts (omega (arith, eqb-false x.starts 0 e)) x.starts_fit

      go : (eqb x.starts 0 ≡ true) ⊎ (eqb x.starts 0 ≡ false) → (ltb 0 k ≡ true) ⊎ (ltb 0 k ≡ false)
          → opening k x.starts ≡ (opened (means x) k).reply
      go (inl e) l =
          let none : any x.n (has x.starts) ≡ false = any_none x.n (has x.starts) (λ t _. rw (eqb-true x.starts 0 e) (has_empty t)) in
          rw (opening, e, opened, none)
      go (inr e) (inl l) = rw (opening, e, l, opened, some e, settle)
      go (inr e) (inr l) =
          let z : k ≡ 0 = omega (arith, ltb-false 0 k l) in
          rw (opening, e, l, opened, some e, settle, z) (resolving_is (means x) x.fit.states (has x.starts) [] 0 0 start_set)
