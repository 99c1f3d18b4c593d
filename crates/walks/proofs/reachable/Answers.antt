use Rattle.bitset.proofs.Taking.{next_below}
use Rattle.walks.proofs.Reaching.{reaching_front, fewer_left, reached_first, reached_next, reached_all}
use Rattle.walks.proofs.reachable.Goals as goal

pub loop-seen-init : goal.loop-seen-init
loop-seen-init c = reached_first c.args.succ.now

pub loop-s-init : goal.loop-s-init
loop-s-init c =
    rw (c.into_iter-s-iterator.ensures.into_iter_gives, c.of-s-items.ensures) (reaching_front _ c.loop-seen.invariant)

pub loop-seen-smaller : goal.loop-seen-smaller
loop-seen-smaller c = fewer_left _ c.loop-seen.invariant c.loop-seen-test.true

pub leads_to-seen-requires : goal.leads_to-seen-requires
leads_to-seen-requires c = next_below c.loop-s.invariant.left c.in-Some.ensures.steps

pub loop-s-preserved : goal.loop-s-preserved
loop-s-preserved c = reached_next c.args.succ.now c.loop-s.invariant c.in-Some.ensures.steps c.leads_to-seen.ensures

pub returns : goal.returns
returns c = reached_all c.args.succ.now c.loop-seen.invariant c.loop-seen-test.false
