use Rattle.std.proofs.Common.{arith, rules, ◌<◌, ◌^◌}
use borrow.Author.Tests.{ne_eqb}
use Rattle.bitset.proofs.Counts.{ones_size, trailing_least}
use Rattle.streaming.specs.PlainWalk.{limit}
use Rattle.deciding.specs.Deciding.{resolving}
use Rattle.deciding.proofs.resolve.Goals as goal

pub overflow_cast-result : goal.overflow_cast-result
unfolding limit
overflow_cast-result c = omega (arith, c.requires)

pub returns-then-set-eq1 : goal.returns-then-set-eq1
unfolding resolving
returns-then-set-eq1 c = let h : c.args.set < 2 ^ 64 = search rules in rw (← ones_size 64 _ h, c.if-set-eq1.true, trailing_least 64)

pub returns-else-set-eq1 : goal.returns-else-set-eq1
unfolding resolving
returns-else-set-eq1 c = let h : c.args.set < 2 ^ 64 = search rules in rw (← ones_size 64 _ h, ne_eqb _ 1 c.if-set-eq1.false)
