-- The members of a set taken one by one, ascending.
-- Assumes nothing.
use Rattle.std.specs.Prelude.{ℕ, ◌<◌, not, ◌&&◌, ◌≡◌, eqb, Option, None, Some}
use Rattle.bitset.specs.Sets.{least}
use Rattle.bitset.specs.Numbers.{has}
use Rattle.bitset.specs.declared.Members.{Members}

-- s, the least member of a set that is not empty, is taken, and the others are left.
pub record Taken (rest s left : ℕ) : Type 0 where
  pub some : 0 < rest
  pub is : s ≡ least 64 (has rest)
  pub others : (t : ℕ) → has left t ≡ (has rest t && not (eqb s t))

-- What taking gives: a member, or that none is left.
abbrev pub Takes : Members → Option ℕ → Members → Type 0
Takes old None new = (old.rest ≡ 0) × (new.rest ≡ 0)
Takes old (Some s) new = Taken old.rest s new.rest
