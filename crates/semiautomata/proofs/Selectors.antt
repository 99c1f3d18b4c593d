-- The verdict on a look-ahead word, as tests that compute: survivors, minimal selector, maximal nonselector say what Definition 2 says.
-- Assumes nothing.
use Prim.Native.Nat.{ℕ, ◌<◌}
use mathlib.Core.Bool.{Bool, true, not, true≢false}
use mathlib.Core.Path.{◌≡◌, sym, ◌∙◌, ap}
use mathlib.Core.List.{List, [], ◌∷◌, ◌++◌, append_assoc}
use lib.Dec.{ltb}
use lib.ListN.{length, take}
use borrow.Author.Tests.{eqb-true, eq-eqb, ltb-true, lt-ltb, not-true}
use Rattle.bitset.specs.Sets.{size}
use Rattle.bitset.proofs.Tests.{and_in, and_out, not_so}
use Rattle.bitset.proofs.Below.{any_not, any_none, sole_size, size_sole, size_two, size_other}
use Rattle.semiautomata.specs.Semiautomaton.{Semiautomaton, Within, Spells}
use Rattle.semiautomata.specs.Walks.{spells, survivors}
use Rattle.semiautomata.specs.Selectors.{Survives, Selector, MinimalSelector, MaximalNonselector, selector, minimal_selector}
use Rattle.semiautomata.specs.Selectors.{maximal_nonselector}
use Rattle.semiautomata.proofs.Paths.{spells_prefix, path_split}
use Rattle.semiautomata.proofs.Computed.{spells_out, spells_in}

module _ (S : Semiautomaton) (W : Within S) (X : ℕ → Bool) (below : (s : ℕ) → X s ≡ true → s < S.n) where
  pub survivors_out : (w : List ℕ) (t : ℕ) → survivors S X w t ≡ true → Survives S X w t
  survivors_out w t e = let (h, q) = and_out (X t) (spells S w t) e in record { from_it = h; spells = spells_out S w t q }

  pub survivors_in : (w : List ℕ) (t : ℕ) → Survives S X w t → survivors S X w t ≡ true
  survivors_in w t h = and_in (X t) (spells S w t) h.from_it (spells_in S W w t h.spells)

  pub selector_out : (w : List ℕ) → selector S X w ≡ true → Selector S X w
  unfolding selector
  selector_out w e =
      let (t, o) = size_sole S.n (survivors S X w) (eqb-true _ 1 e) in
      record {
        state = t;
        survives = survivors_out w t o.member;
        only = λ u h. o.only u (below u h.from_it) (survivors_in w u h);
      }

  pub selector_in : (w : List ℕ) → Selector S X w → selector S X w ≡ true
  unfolding selector
  selector_in w h =
      let t = h.state in
      eq-eqb _ 1 (sole_size S.n (survivors S X w) t (record {
        below = below t h.survives.from_it;
        member = survivors_in w t h.survives;
        only = λ u _ e. h.only u (survivors_out w u e);
      }))

  pub minimal_out : (w : List ℕ) → minimal_selector S X w ≡ true → MinimalSelector S X w
  unfolding minimal_selector
  minimal_out w e =
      let (a, b) = and_out (selector S X w) _ e in
      record {
        selector = selector_out w a;
        minimal = λ i h s. true≢false (sym (selector_in (take i w) s)
            ∙ any_not (length w) (λ i. selector S X (take i w)) (not-true _ b) i h);
      }

  pub minimal_in : (w : List ℕ) → MinimalSelector S X w → minimal_selector S X w ≡ true
  unfolding minimal_selector
  minimal_in w h = and_in (selector S X w) _ (selector_in w h.selector)
      (ap not (any_none (length w) (λ i. selector S X (take i w)) (λ i l. not_so _ (λ e. h.minimal i l (selector_out (take i w) e)))))

  -- a longer word begins with one letter more
  longer : (w : List ℕ) (a : ℕ) (v : List ℕ) (t : ℕ) → Spells S t (w ++ (a ∷ v)) → (a < S.m) × (spells S (w ++ (a ∷ [])) t ≡ true)
  longer w a v t h =
      let (x, p) = h in
      let (y, _, (r, e, _)) = path_split S w (a ∷ v) t x p in
      (W.letter_lt y a r e, spells_in S W (w ++ (a ∷ [])) t (spells_prefix S (w ++ (a ∷ [])) v t (rw append_assoc h)))

  pub maximal_out : (w : List ℕ) (t : ℕ) → maximal_nonselector S X w t ≡ true → MaximalNonselector S X w t
  unfolding maximal_nonselector
  maximal_out w t e =
      let (a, e) = and_out (survivors S X w t) _ e in
      let (b, c) = and_out (ltb 1 (size S.n (survivors S X w))) _ e in
      let (u, o, ne) = size_other S.n (survivors S X w) (ltb-true 1 _ b) t in
      record {
        survives = survivors_out w t a;
        other = u;
        also = survivors_out w u o;
        differ = ne;
        maximal = λ a v h. let (l, q) = longer w a v t h in
            true≢false (sym q ∙ any_not S.m (λ a. spells S (w ++ (a ∷ [])) t) (not-true _ c) a l);
      }

  pub maximal_in : (w : List ℕ) (t : ℕ) → MaximalNonselector S X w t → maximal_nonselector S X w t ≡ true
  unfolding maximal_nonselector
  maximal_in w t h =
      let u = h.other in
      and_in (survivors S X w t) _ (survivors_in w t h.survives) (and_in (ltb 1 (size S.n (survivors S X w))) _
      (lt-ltb 1 _ (size_two S.n (survivors S X w) u t (below u h.also.from_it) (below t h.survives.from_it)
      (survivors_in w u h.also) (survivors_in w t h.survives) h.differ))
      (ap not (any_none S.m (λ a. spells S (w ++ (a ∷ [])) t)
      (λ a _. not_so _ (λ e. h.maximal a [] (spells_out S (w ++ (a ∷ [])) t e))))))
