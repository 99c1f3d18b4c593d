-- Who can cause a refusal, by the range that its number lies in.
-- Assumes nothing.
use Prim.Native.Nat.{ℕ, ◌≤◌, ◌<◌}
use mathlib.Core.Bool.{true, false, ◌||◌, and-false}
use mathlib.Core.Path.{◌≡◌}
use native.Mathlib.Omega.{arith}
use native.Mathlib.Decide.{ℕ_discrete}
use lib.Dec.{eqb}
use borrow.Author.Tests.{le-leb, lt-leb, ne_eqb}
use Rattle.std.specs.Prelude.{Some, None}
use Rattle.refusals.specs.Checks.{within}
use Rattle.refusals.specs.Groups.{group_of}
use Rattle.refusals.specs.declared.Group.TheVariants.{Author, Caller, Logger}

module _ (x : ℕ) where
  inside : (a b : ℕ) → a ≤ x → x ≤ b → within a b x ≡ true
  inside a b h g = rw (le-leb a x h, le-leb x b g)

  above : (a b : ℕ) → b < x → within a b x ≡ false
  above a b h = rw (lt-leb x b h, and-false)

  none_between : 7 < x → x < 15 → (eqb x 15 || eqb x 16) ≡ false
  none_between h g = rw (ne_eqb x 15 (omega arith), ne_eqb x 16 (omega arith))

  pub author : 1 ≤ x → x ≤ 7 → Some Author ≡ group_of x
  author h g = rw (inside 1 7 h g)

  pub author_last : 15 ≤ x → x ≤ 16 → Some Author ≡ group_of x
  author_last h g = elim (ℕ_discrete x 15) [ yes e ↦ rw e | no n ↦ let e : x ≡ 16 = omega arith in rw e ]

  pub caller : 8 ≤ x → x ≤ 10 → Some Caller ≡ group_of x
  caller h g = rw (above 1 7 (omega arith), none_between (omega arith) (omega arith), inside 8 10 h g)

  pub logger : 11 ≤ x → x ≤ 13 → Some Logger ≡ group_of x
  logger h g = rw (
    above 1 7 (omega arith),
    none_between (omega arith) (omega arith),
    above 8 10 (omega arith),
    ne_eqb x 14 (omega arith),
    inside 11 13 h g,
  )

  pub nobody_low : x < 1 → None ≡ group_of x
  nobody_low h = let e : x ≡ 0 = omega arith in rw e

  pub nobody_high : 16 < x → None ≡ group_of x
  nobody_high h = rw (
    above 1 7 (omega arith),
    ne_eqb x 15 (omega arith),
    ne_eqb x 16 (omega arith),
    above 8 10 (omega arith),
    ne_eqb x 14 (omega arith),
    above 11 13 (omega arith),
  )
