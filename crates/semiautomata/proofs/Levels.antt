-- The levels of live pairs: two states are live for j letters exactly if they share a word of j letters, and a level that repeats stays.
-- Assumes nothing.
use Prim.Native.Nat.{ℕ, zero, suc, ◌≤◌, ◌<◌}
use mathlib.Core.Bool.{Bool, true, ◌&&◌}
use mathlib.Core.Path.{◌≡◌, refl, ◌∙◌, ap}
use mathlib.Core.List.{List, [], ◌∷◌}
use native.Mathlib.Omega.{arith}
use native.Mathlib.Decide.{le_ind}
use lib.ListN.{length}
use Rattle.bitset.proofs.Tests.{and_in, and_out}
use Rattle.bitset.proofs.Below.{any_in, any_cong, with_any}
use Rattle.semiautomata.specs.Semiautomaton.{Semiautomaton, Within, Path}
use Rattle.semiautomata.specs.Predictability.{Share}
use Rattle.semiautomata.specs.Levels.{live}
use Rattle.semiautomata.proofs.Paths.{spells_cons}
use Rattle.semiautomata.proofs.Shares.{share_zero}

pub with_and : {C : Type 0} (a b : Bool) → (a ≡ true → b ≡ true → C) → (a && b) ≡ true → C
with_and a b k e = let (p, q) = and_out a b e in k p q

module _ (S : Semiautomaton) where
  pub live_out : (j s t : ℕ) → live S j s t ≡ true → Share S j s t
  unfolding live
  live_out zero s t = λ _. share_zero
  live_out (suc j) s t = with_any _ _ λ a _. with_any _ _ λ r _. with_any _ _ λ u _. with_and _ _ λ p. with_and _ _ λ q e.
      let h = live_out j r u e in
      record {
        word = a ∷ h.word;
        long = ap suc h.long;
        left = spells_cons S a h.word s r p h.left;
        right =
            spells_cons S a h.word t u q h.right;
      }

  module _ (W : Within S) where
    live_on : (j : ℕ) (w : List ℕ) (s x t y : ℕ) → length w ≡ j → Path S s w x → Path S t w y → live S j s t ≡ true
    unfolding live
    live_on zero w s x t y l p q = refl
    live_on (suc j) [] s x t y l p q = absurd (omega arith)
    live_on (suc j) (a ∷ w) s x t y l (r, d, p) (u, e, q) =
        any_in _ _ a (W.letter_lt s a r d) (any_in _ _ r (W.to_lt s a r d) (any_in _ _ u (W.to_lt t a u e)
        (and_in _ _ d (and_in _ _ e (live_on j w r x u y (omega arith) p q)))))

    pub live_in : {j s t : ℕ} → Share S j s t → live S j s t ≡ true
    live_in {j} {s} {t} h = let (x, p) = h.left in let (y, q) = h.right in live_on j h.word s x t y h.long p q

  -- a level follows from the level before it
  module _ (i j : ℕ) (same : (r u : ℕ) → r < S.n → u < S.n → live S i r u ≡ live S j r u) where
    live_next : (s t : ℕ) → live S (suc i) s t ≡ live S (suc j) s t
    unfolding live
    live_next s t = any_cong S.m _ _ λ a _. any_cong S.n _ _ λ r h. any_cong S.n _ _ λ u k. rw (same r u h k)

  -- once two levels are the same, so are all that follow
  pub live_fixed : (j : ℕ) → ((s t : ℕ) → s < S.n → t < S.n → live S (suc j) s t ≡ live S j s t)
      → (k : ℕ) → j ≤ k → (s t : ℕ) → s < S.n → t < S.n → live S k s t ≡ live S j s t
  live_fixed j same = le_ind (λ (k : ℕ). (s t : ℕ) → s < S.n → t < S.n → live S k s t ≡ live S j s t) (λ s t _ _. refl)
      (λ k _ e s t a b. live_next k j e s t ∙ same s t a b)
