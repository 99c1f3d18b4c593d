-- Laws of tests that are negated or joined.
-- Assumes nothing.
use Prim.Native.Nat.{ℕ, suc}
use mathlib.Core.Bool.{Bool, true, false, not, ◌&&◌, ◌||◌}
use mathlib.Core.Path.{◌≡◌, refl, ◌∙◌}
use mathlib.Core.Logic.{inl, inr}
use lib.Dec.{ltb, leb, leb-suc-suc}
use borrow.Author.Tests.{leb-true, leb-false, lt-ltb, le-ltb}
use Rattle.bitset.proofs.Tests.{decided}

pub not_and : (a b : Bool) → not (a && b) ≡ (not a || not b)
not_and true b = refl
not_and false b = refl

pub not_or : (a b : Bool) → not (a || b) ≡ (not a && not b)
not_or true b = refl
not_or false b = refl

pub not_leb : (a b : ℕ) → not (leb a b) ≡ ltb b a
not_leb a b = elim (decided (leb a b)) [ inl e ↦ rw (e, le-ltb b a (leb-true a b e)) | inr e ↦ rw (e, lt-ltb b a (leb-false a b e)) ]

pub not_ltb : (a b : ℕ) → not (ltb a b) ≡ leb b a
not_ltb a b = not_leb (suc a) b ∙ leb-suc-suc b a
