-- Lines that stand twice, party by party: two lines that are the same are of one party.
-- Assumes nothing.
use Prim.Native.Nat.{ℕ, ◌+◌, ◌≤◌, ◌<◌}
use mathlib.Core.Bool.{Bool, true, not, ◌&&◌, ◌||◌, or-false}
use mathlib.Core.Path.{◌≡◌, refl}
use mathlib.Core.Logic.{inl, inr}
use native.Mathlib.Omega.{arith}
use native.Mathlib.Numerals.{add-one}
use native.Mathlib.Decide.{ℕ_discrete}
use lib.Dec.{eqb}
use borrow.Author.Tests.{eq-eqb, ne_eqb}
use Rattle.bitset.specs.Sets.{any}
use Rattle.bitset.proofs.Tests.{and_in, and_out, or_left, or_right, or_cases, same_test}
use Rattle.bitset.proofs.Below.{any_in, any_out, with_any}
use Rattle.plan.specs.Plan.{Plan, line_twice}
use Rattle.plan.specs.inner.Steps.{twice_of}

-- ONE PARTY MORE

module _ (party : ℕ) (p : ℕ → Bool) {q : ℕ} {twice : Bool} (so : twice ≡ any q (λ x. not (eqb x party) && p x)) where
  pub elsewhere_next : {b : Bool} → ¬ (q ≡ party) → b ≡ p q → (twice || b) ≡ any (q + 1) (λ x. not (eqb x party) && p x)
  unfolding any
  elsewhere_next n e = rw (add-one, so, e, ne_eqb q party n)

  pub elsewhere_same : q ≡ party → twice ≡ any (q + 1) (λ x. not (eqb x party) && p x)
  unfolding any
  elsewhere_same e = rw (add-one, so, eq-eqb q party e, or-false)

-- ALL PARTIES

module _ (P : Plan) where
  -- a line that stands twice in a party stands twice
  one_twice : (q : ℕ) → twice_of P q ≡ true → line_twice P ≡ true
  one_twice q = with_any _ _ λ j h. with_any _ _ λ i g e.
      any_in P.e _ j h (any_in j _ i g (and_out (eqb (P.line j).party q) _ e).1)

  -- and one that stands twice does so in its party
  twice_one : {C : Type 0} → ((j : ℕ) → j < P.e → twice_of P (P.line j).party ≡ true → C) → line_twice P ≡ true → C
  twice_one f = with_any _ _ λ j h. with_any _ _ λ i g e.
      f j h (any_in P.e _ j h (any_in j _ i g (and_in _ _ (eq-eqb (P.line j).party _ refl) e)))

  -- so that looking at the one party and at the others up to the highest is enough
  pub twice_parted : (party highest : ℕ) → ((i : ℕ) → i < P.e → (P.line i).party ≤ highest)
      → (twice_of P party || any (highest + 1) (λ q. not (eqb q party) && twice_of P q)) ≡ line_twice P
  twice_parted party highest h = same_test _ _
      (λ e. elim (or_cases (twice_of P party) _ e) [
        | inl d ↦ one_twice party d
        | inr d ↦ let (q, _, x) = any_out (highest + 1) (λ q. not (eqb q party) && twice_of P q) d in
            one_twice q (and_out (not (eqb q party)) _ x).1
      ])
      (twice_one λ j g d. elim (ℕ_discrete (P.line j).party party) [
        | yes e ↦ or_left (twice_of P party) _ (rw e at d)
        | no n ↦ or_right (twice_of P party) _ (any_in (highest + 1) _ (P.line j).party (omega (arith, h j g))
            (and_in (not (eqb (P.line j).party party)) _ (rw (ne_eqb (P.line j).party party n)) d))
      ])
