use Rattle.std.proofs.Common.{arith}
use Rattle.bitset.proofs.Taking.{left_next, next_below}
use Rattle.needs.proofs.Lives.{with_next, with_all}
use Rattle.needs.proofs.longest_with.Goals as goal

pub overflow_add-s : goal.overflow_add-s
overflow_add-s c = omega (arith, next_below c.loop-t.invariant.0 c.in-Some.ensures.steps, c.requires)

pub offset_bounds-lifetimes-s : goal.offset_bounds-lifetimes-s
offset_bounds-lifetimes-s c = omega (arith, next_below c.loop-t.invariant.0 c.in-Some.ensures.steps, c.requires)

pub bounds-lifetimes-s : goal.bounds-lifetimes-s
bounds-lifetimes-s c = omega (arith, next_below c.loop-t.invariant.0 c.in-Some.ensures.steps, c.requires)

pub loop-t-preserved : goal.loop-t-preserved
loop-t-preserved c =
    let (left, most) = c.loop-t.invariant in
    let taken = c.in-Some.ensures.steps in
    rw c.max-longest.ensures (left_next left taken, with_next _ _ _ left most taken)

pub returns : goal.returns
returns c = let (left, most) = c.loop-t.invariant in with_all _ _ _ left most c.in-None.ensures.steps.0
