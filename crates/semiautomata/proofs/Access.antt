-- Accessible states: the test that computes says what it means, for a path that visits no state twice has fewer than n letters.
-- Assumes nothing.
use Prim.Native.Nat.{ℕ, zero, suc, ◌+◌, ◌-◌, ◌≤◌, ◌<◌}
use mathlib.Core.Bool.{true}
use mathlib.Core.Path.{◌≡◌, sym, subst₂}
use mathlib.Core.Logic.{inl, inr}
use mathlib.Core.List.{List, [], ◌∷◌, ◌++◌}
use native.Mathlib.Omega.{arith}
use native.Mathlib.Decide.{dec_le, le_ind}
use lib.ListN.{length, get_or, length-append}
use Rattle.bitset.proofs.Tests.{and_in, or_left, or_right, or_cases}
use Rattle.bitset.proofs.Below.{any_in, with_any}
use Rattle.semiautomata.specs.Semiautomaton.{Semiautomaton, Within, Path, Accessible}
use Rattle.semiautomata.specs.Access.{accessible_by, accessible}
use Rattle.semiautomata.proofs.Paths.{path_join, initial_accessible, accessible_next}
use Rattle.semiautomata.proofs.Pairs.{repeats}
use Rattle.semiautomata.proofs.Runs.{spell, length_spell, Run, trace, trace_run, run_path, run_lt}
use Rattle.semiautomata.proofs.Levels.{with_and}

module _ (S : Semiautomaton) where
  by_out : (j q : ℕ) → accessible_by S j q ≡ true → Accessible S q
  unfolding accessible_by
  by_out zero q e = initial_accessible q e
  by_out (suc j) q e = elim (or_cases (accessible_by S j q) _ e) [
    | inl h ↦ by_out j q h
    | inr h ↦ with_any _ _ (λ a _. with_any _ _ λ p _. with_and (S.edge p a q) _ λ d b. accessible_next {a = a} (by_out j p b) d) h
  ]

  pub accessible_out : (q : ℕ) → accessible S q ≡ true → Accessible S q
  unfolding accessible
  accessible_out q e = by_out S.n q e

  -- the last state of a run along a path is its end
  trace_end : (w : List ℕ) (s t : ℕ) (p : Path S s w t) → trace S w s t p (length w) ≡ t
  trace_end [] s t p = p
  trace_end (a ∷ w) s t p = trace_end w p.0 t p.2

  module _ (W : Within S) where
    by_more : (i j q : ℕ) → i ≤ j → accessible_by S i q ≡ true → accessible_by S j q ≡ true
    unfolding accessible_by
    by_more i j q h e = le_ind (λ (j : ℕ). accessible_by S j q ≡ true) e (λ j _ e. or_left (accessible_by S j q) _ e) j h

    by_on : (w : List ℕ) (i j q t : ℕ) → i + length w ≡ j → accessible_by S i q ≡ true → Path S q w t → accessible_by S j t ≡ true
    unfolding accessible_by
    by_on [] i j q t l e p = let same : i ≡ j = omega arith in rw (same, p) at e
    by_on (a ∷ w) i j q t l e (r, d, p) =
        let next = any_in _ _ a (W.letter_lt q a r d) (any_in _ _ q (W.from_lt q a r d) (and_in _ _ d e)) in
        by_on w (suc i) j r t (omega arith) (or_right (accessible_by S i r) _ next) p

    -- a path with n letters or more comes to some state twice, and what lies between can be left out
    shorten : (w : List ℕ) (s t : ℕ) → s < S.n → Path S s w t → S.n ≤ length w → (v : List ℕ) × (length v < length w) × Path S s v t
    shorten w s t h p l =
        let r = repeats S.n f (λ i k. run_lt S W (length w) c f run h i (omega arith)) in
        let u = spell c 0 r.i in
        let v = spell c r.j (length w - r.j) in
        let to = run_path S (length w) c f run 0 r.i r.i (omega arith) (omega arith) in
        let on = run_path S (length w) c f run r.j (length w - r.j) (length w) (omega arith) (omega arith) in
        let on = subst₂ (λ (x y : ℕ). Path S x v y) (sym r.same) (trace_end w s t p) on in
        (u ++ v, simp (length-append, length_spell) (omega arith), path_join S u v s (f r.i) t to on)
      where
        c : ℕ → ℕ
        c i = get_or w i 0

        f : ℕ → ℕ
        f = trace S w s t p

        run : Run S (length w) c f
        run = trace_run S w s t p

    -- so as often as it takes
    few : (fuel : ℕ) (w : List ℕ) (s t : ℕ) → length w ≤ fuel → s < S.n → Path S s w t → (v : List ℕ) × (length v ≤ S.n) × Path S s v t
    few zero w s t l h p = (w, omega arith, p)
    few (suc fuel) w s t l h p = elim (dec_le S.n (length w)) [
      | no k ↦ (w, omega arith, p)
      | yes k ↦ let (v, less, q) = shorten w s t h p k in few fuel v s t (omega arith) h q
    ]

    -- an accessible state is reached by n letters or fewer
    pub accessible_short : (q : ℕ) → Accessible S q → (c : Accessible S q) × (length c.word ≤ S.n)
    accessible_short q c =
        let (v, l, p) = few (length c.word) c.word c.start q (omega arith) (W.initial_lt c.start c.from_it) c.path in
        (record { start = c.start; from_it = c.from_it; word = v; path = p }, l)

    pub accessible_in : (q : ℕ) → Accessible S q → accessible S q ≡ true
    unfolding accessible accessible_by
    accessible_in q c =
        let (c, l) = accessible_short q c in
        let w = c.word in
        by_more (length w) S.n q l (by_on w 0 (length w) c.start q (omega arith) c.from_it c.path)
