use mathlib.Core.Path.{◌∙◌, sym}
use borrow.Author.Tests.{le-ltb}
use Rattle.bitset.proofs.Bits.{has_test, has_high}
use Rattle.bitset.proofs.contains.Goals as goal

pub returns-then-s-lt64 : goal.returns-then-s-lt64
returns-then-s-lt64 c = has_test _ _

pub returns-else-s-lt64 : goal.returns-else-s-lt64
returns-else-s-lt64 c = le-ltb _ 64 c.if-s-lt64.false ∙ sym (has_high 64 _ _ c.before.ranges.set.fits c.if-s-lt64.false)
