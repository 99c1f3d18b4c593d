use Rattle.std.proofs.Common.{arith, refl}
use Rattle.decimals.proofs.Columns.{spelled_place, spelled_last, spelled_on}
use Rattle.decimals.proofs.right.Goals as goal

pub overflow_sub-first : goal.overflow_sub-first
overflow_sub-first c = spelled_place _ c.loop-rest.invariant

pub bounds-columns-first : goal.bounds-columns-first
bounds-columns-first c = let i = c.loop-rest.invariant in omega (arith, spelled_place _ i, i.places)

pub returns-then-rest-eq0 : goal.returns-then-rest-eq0
returns-then-rest-eq0 c = spelled_last _ c.loop-rest.invariant refl c.if-rest-eq0.true

pub loop-rest-preserved : goal.loop-rest-preserved
loop-rest-preserved c = spelled_on _ c.loop-rest.invariant refl c.if-rest-eq0.false
