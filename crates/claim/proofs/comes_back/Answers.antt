use Rattle.std.proofs.Common.{arith}
use Rattle.bitset.proofs.Taking.{left_next, next_below, passed_next, passed_hit, passed_all}
use Rattle.walks.proofs.Steps.{means_within}
use Rattle.walks.proofs.Words.{alone_lt}
use Rattle.claim.proofs.Claims.{back_hit, back_miss, led_yes, led_no, led_any}
use Rattle.claim.proofs.comes_back.Goals as goal

pub overflow_shl-member : goal.overflow_shl-member
overflow_shl-member c =
    let left = c.loop-s.invariant.0 in
    omega (arith, next_below left c.in-Some.ensures.steps, left.width)

pub reach_by-requires : goal.reach_by-requires
reach_by-requires c =
    (alone_lt c.args.succ.now (next_below c.loop-s.invariant.0 c.in-Some.ensures.steps), c.requires.1)

pub returns-then-reach_by-member-ne0 : goal.returns-then-reach_by-member-ne0
returns-then-reach_by-member-ne0 c =
    let left = c.loop-s.invariant.0 in
    let taken = c.in-Some.ensures.steps in
    led_any c.args.succ.now
    (led_yes _ _ _ (passed_hit left taken _
    (back_hit c.args.succ.now _ (next_below left taken) (c.reach_by.ensures _) c.if-reach_by-member-ne0.true)))

pub loop-s-preserved : goal.loop-s-preserved
loop-s-preserved c =
    let (left, passed) = c.loop-s.invariant in
    let taken = c.in-Some.ensures.steps in
    let miss = back_miss c.args.succ.now _ (next_below left taken) (c.reach_by.ensures _) c.if-reach_by-member-ne0.false in
    (left_next left taken, passed_next left taken miss passed)

pub returns : goal.returns
returns c =
    let (left, passed) = c.loop-s.invariant in
    led_any c.args.succ.now
    (led_no _ _ _ (means_within c.args.succ.now) left.whole (passed_all left c.in-None.ensures.steps.0 passed))
