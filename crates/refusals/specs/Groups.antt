-- Who can cause which refusal (document 01; 16: document 02, W-207): the plan's author 1 to 7, 15 and 16, the caller 8 to 10 and 14, the
-- logger 11 to 13, nobody another number; and the last of their numbers.
-- Assumes nothing.
use Rattle.std.specs.Prelude.{ℕ, cond, ◌||◌, eqb, Option, None, Some}
use Rattle.refusals.specs.Checks.{within}
use Rattle.refusals.specs.declared.Group.{Group}
use Rattle.refusals.specs.declared.Group.TheVariants.{Author, Caller, Logger}

abbrev pub group_of : ℕ → Option Group
group_of x =
    cond (within 1 7 x || (eqb x 15 || eqb x 16)) (Some Author) (cond (within 8 10 x || eqb x 14) (Some Caller) (cond (within 11 13 x) (Some Logger) None))

-- The highest number of a refusal.
abbrev pub last_refusal : ℕ
last_refusal = 16
