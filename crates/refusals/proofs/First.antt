-- Laws of the first check of a list that applies.
-- Assumes nothing.
use Prim.Native.Nat.{ℕ, ◌≤◌}
use mathlib.Core.Bool.{Bool, true, false, not, cond, ◌&&◌, and-eq-true_iff}
use mathlib.Core.Path.{◌≡◌, refl, sym}
use mathlib.Core.Logic.{◌↔◌}
use mathlib.Core.List.{List, [], ◌∷◌, ◌++◌}
use native.Mathlib.Omega.{arith}
use lib.Dec.{eqb, leb}
use borrow.Author.Tests.{leb-true, le-leb, eqb-false, not-true}
use Rattle.refusals.specs.Checks.{Check, first_of, within, Numbered}

-- no check applies
abbrev pub Passed : List Check → Type 0
Passed [] = Unit {0}
Passed (c ∷ cs) = (c.applies ≡ false) × Passed cs

pub passed_first : (cs : List Check) → Passed cs → first_of cs ≡ 0
passed_first [] _ = refl
passed_first (c ∷ cs) (e, p) = rw e (passed_first cs p)

-- what the numbers of a list say of its first and of the others
pub record Split (b : ℕ) (c : Check) (cs : List Check) : Type 0 where
  pub low : 1 ≤ c.number
  pub high : c.number ≤ b
  pub rest : Numbered b cs

pub split : (b : ℕ) (c : Check) (cs : List Check) → Numbered b (c ∷ cs) → Split b c cs
split b c cs e =
    let (x, r) = (and-eq-true_iff (within 1 b c.number) _).0 e in
    let (l, h) = (and-eq-true_iff (leb 1 c.number) _).0 x in
    record { low = leb-true _ _ l; high = leb-true _ _ h; rest = r }

module _ (b : ℕ) where
  pub first_le : (cs : List Check) → Numbered b cs → first_of cs ≤ b
  first_le [] _ = omega arith
  first_le (c ∷ cs) n = let s = split b c cs n in go c.applies s.high (first_le cs s.rest)
    where
      go : (x : Bool) → c.number ≤ b → first_of cs ≤ b → cond x c.number (first_of cs) ≤ b
      go true h _ = h
      go false _ h = h

  -- nothing applies where the number is 0
  pub first_passed : (cs : List Check) → Numbered b cs → first_of cs ≡ 0 → Passed cs
  first_passed [] _ _ = tt
  first_passed (c ∷ cs) n z = let s = split b c cs n in go c.applies refl s.low (first_passed cs s.rest) z
    where
      go : (x : Bool) → c.applies ≡ x → 1 ≤ c.number → (first_of cs ≡ 0 → Passed cs) → cond x c.number (first_of cs) ≡ 0
          → Passed (c ∷ cs)
      go true _ l _ z = absurd (omega arith)
      go false e _ f z = (e, f z)

  -- behind a list of which none applies
  pub first_behind : (cs ds : List Check) → Numbered b cs → first_of cs ≡ 0 → first_of (cs ++ ds) ≡ first_of ds
  first_behind cs ds n z = go cs (first_passed cs n z)
    where
      go : (cs : List Check) → Passed cs → first_of (cs ++ ds) ≡ first_of ds
      go [] _ = refl
      go (c ∷ cs) (e, p) = rw e (go cs p)

  -- none of two lists applies
  pub first_both : (cs ds : List Check) → Numbered b cs → (first_of (cs ++ ds) ≡ 0) ↔ ((first_of cs ≡ 0) × (first_of ds ≡ 0))
  first_both [] ds _ = (λ z. (refl, z), λ (_, z). z)
  first_both (c ∷ cs) ds n = let s = split b c cs n in go c.applies s.low (first_both cs ds s.rest)
    where
      go : (x : Bool) → 1 ≤ c.number → (first_of (cs ++ ds) ≡ 0) ↔ ((first_of cs ≡ 0) × (first_of ds ≡ 0))
          → (cond x c.number (first_of (cs ++ ds)) ≡ 0) ↔ ((cond x c.number (first_of cs) ≡ 0) × (first_of ds ≡ 0))
      go true l _ = (λ z. absurd (omega arith), λ (z, _). absurd (omega arith))
      go false _ f = f

  pub numbered_both : (cs ds : List Check) → Numbered b cs → Numbered b ds → Numbered b (cs ++ ds)
  numbered_both [] ds _ n = n
  numbered_both (c ∷ cs) ds n m =
      let (x, r) = (and-eq-true_iff (within 1 b c.number) _).0 n in
      (and-eq-true_iff (within 1 b c.number) _).1 (x, numbered_both cs ds r m)

-- before a list of which one applies
pub first_before : (cs ds : List Check) → ¬ (first_of cs ≡ 0) → first_of (cs ++ ds) ≡ first_of cs
first_before [] ds n = absurd (n refl)
first_before (c ∷ cs) ds n = go c.applies (first_before cs ds) n
  where
    go : (x : Bool) → (¬ (first_of cs ≡ 0) → first_of (cs ++ ds) ≡ first_of cs) → ¬ (cond x c.number (first_of cs) ≡ 0)
        → cond x c.number (first_of (cs ++ ds)) ≡ cond x c.number (first_of cs)
    go true _ _ = refl
    go false f n = f n

-- a higher bound
pub numbered_up : (b c : ℕ) → b ≤ c → (cs : List Check) → Numbered b cs → Numbered c cs
numbered_up b c h [] _ = refl
numbered_up b c h (x ∷ cs) n =
    let s = split b x cs n in
    rw (le-leb 1 x.number s.low, le-leb x.number c (omega (arith, s.high)), numbered_up b c h cs s.rest)

-- a number that no check of a list has is not that of its first
abbrev pub lacks : ℕ → List Check → Bool
lacks x [] = true
lacks x (c ∷ cs) = not (eqb c.number x) && lacks x cs

pub first_other : (x : ℕ) → ¬ (x ≡ 0) → (cs : List Check) → lacks x cs ≡ true → ¬ (first_of cs ≡ x)
first_other x n [] _ e = n (sym e)
first_other x n (c ∷ cs) l e =
    let (a, r) = (and-eq-true_iff (not (eqb c.number x)) _).0 l in
    go c.applies (eqb-false c.number x (not-true _ a)) (first_other x n cs r) e
  where
    go : (b : Bool) → ¬ (c.number ≡ x) → ¬ (first_of cs ≡ x) → ¬ (cond b c.number (first_of cs) ≡ x)
    go true h _ e = h e
    go false _ h e = h e
