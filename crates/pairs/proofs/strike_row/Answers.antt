use Rattle.std.proofs.Common.{arith, not, ap, sym, ◌∙◌}
use Rattle.bitset.proofs.Taking.{left_first, left_next, next_below, picked_first, picked_with, picked_without, picked_all}
use Rattle.pairs.proofs.Leading.{led_is}
use Rattle.pairs.proofs.strike_row.Goals as goal

pub loop-t-init : goal.loop-t-init
loop-t-init c =
    rw (c.into_iter-t-iterator.ensures.into_iter_gives, c.of-t-items.ensures)
    (left_first _ _ c.args.succ.now.fit.states c.requires.1, picked_first _ _)

pub lead-requires : goal.lead-requires
lead-requires c = (c.requires.0, next_below c.loop-t.invariant.0 c.in-Some.ensures.steps)

pub overflow_shl-out : goal.overflow_shl-out
overflow_shl-out c =
    let left = c.loop-t.invariant.0 in
    omega (arith, next_below left c.in-Some.ensures.steps, left.width)

pub loop-t-preserved-then-is_none : goal.loop-t-preserved-then-is_none
loop-t-preserved-then-is_none c =
    let (left, picked) = c.loop-t.invariant in
    let taken = c.in-Some.ensures.steps in
    let off = sym (led_is c.args.succ.now c.args.live.now c.args.s c.in-Some.t c.lead.result c.lead.ensures) ∙ c.if-is_none.ensures in
    (left_next left taken, picked_with left taken (ap not off) picked)

pub loop-t-preserved : goal.loop-t-preserved
loop-t-preserved c =
    let (left, picked) = c.loop-t.invariant in
    let taken = c.in-Some.ensures.steps in
    let on = sym (led_is c.args.succ.now c.args.live.now c.args.s c.in-Some.t c.lead.result c.lead.ensures) ∙ c.if-is_none.ensures in
    (left_next left taken, picked_without left taken (ap not on) picked)

pub returns : goal.returns
returns c = let (left, picked) = c.loop-t.invariant in picked_all left c.in-None.ensures.steps.0 picked
