-- The tests on words that compute say what they mean: `spells`, `reach`, `walkable`, `possible`, `longest`.
-- Assumes nothing.
use Prim.Native.Nat.{ℕ, zero, suc, ◌≤◌, ◌<◌}
use mathlib.Core.Bool.{Bool, true, false, true≢false}
use mathlib.Core.Path.{◌≡◌, refl, sym, ◌∙◌}
use mathlib.Core.Logic.{◌⊎◌, inl, inr}
use mathlib.Core.List.{List, [], ◌∷◌, ◌++◌}
use native.Mathlib.Omega.{arith}
use native.Mathlib.Decide.{ℕ_discrete}
use lib.ListN.{length, take, drop}
use Rattle.bitset.specs.Sets.{any}
use Rattle.bitset.proofs.Tests.{and_in, decided, same_test}
use Rattle.bitset.proofs.Below.{any_in, with_any}
use Rattle.semiautomata.specs.Semiautomaton.{Semiautomaton, Within, Path, Spells}
use Rattle.semiautomata.specs.Walks.{Walkable, LedTo, Longest, Possible, spells, step, reach, walkable, possible, greatest, longest}
use Rattle.semiautomata.proofs.Paths.{path_lt, spells_cons}
use Rattle.semiautomata.proofs.Levels.{with_and}

module _ (S : Semiautomaton) where
  pub spells_out : (w : List ℕ) (s : ℕ) → spells S w s ≡ true → Spells S s w
  unfolding spells
  spells_out [] s e = (s, refl)
  spells_out (a ∷ w) s e = with_any _ _ (λ r _. with_and _ _ λ h q. spells_cons S a w s r h (spells_out w r q)) e

  pub step_out : (X : ℕ → Bool) (a t : ℕ) → step S X a t ≡ true → (s : ℕ) × (X s ≡ true) × (S.edge s a t ≡ true)
  unfolding step
  step_out X a t = with_any _ _ λ s _. with_and _ _ λ h e. (s, h, e)

  pub reach_out : (X : ℕ → Bool) (w : List ℕ) (t : ℕ) → reach S X w t ≡ true → (s : ℕ) × (X s ≡ true) × Path S s w t
  reach_out X [] t e = (t, e, refl)
  reach_out X (a ∷ w) t e =
      let (r, h, p) = reach_out (step S X a) w t e in
      let (s, h, e) = step_out X a r h in
      (s, h, (r, e, p))

  pub led_out : (X : ℕ → Bool) (w : List ℕ) (t : ℕ) → reach S X w t ≡ true → LedTo S X w t
  led_out X w t e = let (s, h, p) = reach_out X w t e in record { start = s; from_it = h; path = p }

  pub walkable_out : (X : ℕ → Bool) (w : List ℕ) → walkable S X w ≡ true → Walkable S X w
  unfolding walkable
  walkable_out X w = with_any _ _ λ s _. with_and _ _ λ h e. record { start = s; from_it = h; spells = spells_out w s e }

  pub possible_out : (X : ℕ → Bool) (w : List ℕ) (i x : ℕ) → possible S X w i x ≡ true → Possible S X w i x
  unfolding possible
  possible_out X w i x = with_and _ _ λ h e.
      let (s, q, p) = reach_out X (take i w) x h in record { start = s; from_it = q; before = p; after = spells_out (drop i w) x e }

  module _ (W : Within S) where
    path_spells : (w : List ℕ) (s t : ℕ) → Path S s w t → spells S w s ≡ true
    unfolding spells
    path_spells [] s t p = refl
    path_spells (a ∷ w) s t (r, e, p) = any_in _ _ r (W.to_lt s a r e) (and_in _ _ e (path_spells w r t p))

    pub spells_in : (w : List ℕ) (s : ℕ) → Spells S s w → spells S w s ≡ true
    spells_in w s (t, p) = path_spells w s t p

    pub step_in : (X : ℕ → Bool) (a s t : ℕ) → X s ≡ true → S.edge s a t ≡ true → step S X a t ≡ true
    unfolding step
    step_in X a s t h e = any_in _ _ s (W.from_lt s a t e) (and_in _ _ h e)

    pub reach_in : (X : ℕ → Bool) (w : List ℕ) (s t : ℕ) → X s ≡ true → Path S s w t → reach S X w t ≡ true
    reach_in X [] s t h p = rw p at h
    reach_in X (a ∷ w) s t h (r, e, p) = reach_in (step S X a) w r t (step_in X a s r h e) p

    pub led_in : (X : ℕ → Bool) (w : List ℕ) (t : ℕ) → LedTo S X w t → reach S X w t ≡ true
    led_in X w t c = reach_in X w c.start t c.from_it c.path

    pub possible_in : (X : ℕ → Bool) (w : List ℕ) (i x : ℕ) → Possible S X w i x → possible S X w i x ≡ true
    unfolding possible
    possible_in X w i x c = and_in _ _ (reach_in X (take i w) c.start x c.from_it c.before) (spells_in (drop i w) x c.after)

    module _ (X : ℕ → Bool) (below : (s : ℕ) → X s ≡ true → s < S.n) where
      pub walkable_in : (w : List ℕ) → Walkable S X w → walkable S X w ≡ true
      unfolding walkable
      walkable_in w c = any_in _ _ c.start (below c.start c.from_it) (and_in _ _ c.from_it (spells_in w c.start c.spells))

      -- a word can be walked exactly where it leads somewhere
      pub walkable_reach : (w : List ℕ) → walkable S X w ≡ any S.n (reach S X w)
      walkable_reach w = same_test _ _
          (λ e.
          let c = walkable_out X w e in
          let (t, p) = c.spells in
          any_in _ _ t (path_lt S W w c.start t (below c.start c.from_it) p) (reach_in X w c.start t c.from_it p))
          (with_any _ _ λ t _ e. let (s, h, p) = reach_out X w t e in walkable_in w (record { start = s; from_it = h; spells = (t, p) }))

  pub reach_append : (X : ℕ → Bool) (u v : List ℕ) → reach S X (u ++ v) ≡ reach S (reach S X u) v
  reach_append X [] v = refl
  reach_append X (a ∷ u) v = reach_append (step S X a) u v

-- THE LONGEST BEGINNING ON THE PLAN

pub greatest_le : (p : ℕ → Bool) (N : ℕ) → greatest p N ≤ N
unfolding greatest
greatest_le p zero = omega arith
greatest_le p (suc N) = go (decided (p (suc N))) (greatest_le p N)
  where
    go : (p (suc N) ≡ true) ⊎ (p (suc N) ≡ false) → greatest p N ≤ N → greatest p (suc N) ≤ suc N
    go (inl e) ih = rw e (omega arith)
    go (inr e) ih = rw e (omega arith)

pub greatest_passes : (p : ℕ → Bool) (N : ℕ) → p 0 ≡ true → p (greatest p N) ≡ true
unfolding greatest
greatest_passes p zero h = h
greatest_passes p (suc N) h = go (decided (p (suc N))) (greatest_passes p N h)
  where
    go : (p (suc N) ≡ true) ⊎ (p (suc N) ≡ false) → p (greatest p N) ≡ true → p (greatest p (suc N)) ≡ true
    go (inl e) ih = rw (e, e)
    go (inr e) ih = rw e ih

pub greatest_most : (p : ℕ → Bool) (N j : ℕ) → j ≤ N → p j ≡ true → j ≤ greatest p N
unfolding greatest
greatest_most p zero j h e = omega arith
greatest_most p (suc N) j h e = go (decided (p (suc N))) (greatest_most p N j)
  where
    go : (p (suc N) ≡ true) ⊎ (p (suc N) ≡ false) → (j ≤ N → p j ≡ true → j ≤ greatest p N) → j ≤ greatest p (suc N)
    go (inl q) ih = rw q h
    go (inr q) ih = rw q (elim (ℕ_discrete j (suc N)) [ yes r ↦ absurd (true≢false (sym e ∙ rw r q)) | no r ↦ ih (omega arith) e ])

module _ (S : Semiautomaton) where
  pub longest_unique : (w : List ℕ) (g h : ℕ) → Longest S w g → Longest S w h → g ≡ h
  longest_unique w g h a b = omega (arith, a.most h b.fits b.walked, b.most g a.fits a.walked)

  pub longest_is : Within S → (s : ℕ) → S.initial s ≡ true → (w : List ℕ) → Longest S w (longest S w)
  unfolding longest
  longest_is W s e w = record {
    fits = greatest_le p (length w);
    walked = walkable_out S S.initial (take (greatest p (length w)) w)
        (greatest_passes p (length w) (on [] (record { start = s; from_it = e; spells = (s, refl) })));
    most = λ h l o. greatest_most p (length w) h l (on (take h w) o);
  }
    where
      p : ℕ → Bool
      p g = walkable S S.initial (take g w)

      on : (v : List ℕ) → Walkable S S.initial v → walkable S S.initial v ≡ true
      on = walkable_in S W S.initial W.initial_lt
