use Rattle.bitset.proofs.Taking.{left_first, left_next, next_below, joined_first, joined_next, counted_first, counted_next, counted_all}
use Rattle.walks.proofs.Steps.{gathered}
use Rattle.walks.proofs.gather.Goals as goal

pub loop-s-init : goal.loop-s-init
loop-s-init c =
    rw (c.into_iter-s-iterator.ensures.into_iter_gives, c.of-s-items.ensures)
    (left_first _ _ c.args.succ.now.fit.states c.requires.0, joined_first _ _ _, counted_first _)

pub of-out-requires : goal.of-out-requires
of-out-requires c = (next_below c.loop-s.invariant.0 c.in-Some.ensures.steps, c.requires.1)

pub loop-s-preserved : goal.loop-s-preserved
loop-s-preserved c =
    let (left, joined, counted) = c.loop-s.invariant in
    let taken = c.in-Some.ensures.steps in
    (left_next left taken, rw c.of-out.ensures (joined_next left taken joined), counted_next left taken counted)

pub returns : goal.returns
returns c =
    let (left, joined, counted) = c.loop-s.invariant in
    let none = c.in-None.ensures.steps.0 in
    (gathered c.args.succ.now c.requires.1 left none joined, counted_all left none counted)
