use Rattle.std.proofs.Common.{arith}
use Rattle.bitset.proofs.Bits.{meets_some, meets_none}
use Rattle.bitset.proofs.Taking.{left_first, left_next, next_below, picked_first, picked_with, picked_without, picked_all}
use Rattle.walks.proofs.back.Goals as goal

pub loop-s-init : goal.loop-s-init
loop-s-init c =
    rw (c.into_iter-s-iterator.ensures.into_iter_gives, c.of-s-items.ensures)
    (left_first _ _ c.args.succ.now.fit.states c.requires.0, picked_first _ _)

pub of-requires : goal.of-requires
of-requires c = (next_below c.loop-s.invariant.0 c.in-Some.ensures.steps, c.requires.1)

pub overflow_shl-out : goal.overflow_shl-out
overflow_shl-out c = omega (arith, next_below c.loop-s.invariant.0 c.in-Some.ensures.steps, c.args.succ.now.fit.states)

pub loop-s-preserved-then-target-of-ne0 : goal.loop-s-preserved-then-target-of-ne0
loop-s-preserved-then-target-of-ne0 c =
    let (left, picked) = c.loop-s.invariant in
    let taken = c.in-Some.ensures.steps in
    let meets = rw c.of.ensures at c.if-target-of-ne0.true in
    (left_next left taken, picked_with left taken (meets_some _ _ _ c.requires.2 meets) picked)

pub loop-s-preserved : goal.loop-s-preserved
loop-s-preserved c =
    let (left, picked) = c.loop-s.invariant in
    let taken = c.in-Some.ensures.steps in
    let misses = rw c.of.ensures at c.if-target-of-ne0.false in
    (left_next left taken, picked_without left taken (meets_none _ _ _ misses) picked)

pub returns : goal.returns
returns c = let (left, picked) = c.loop-s.invariant in picked_all left c.in-None.ensures.steps.0 picked
