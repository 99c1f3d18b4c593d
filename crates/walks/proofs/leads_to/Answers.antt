use Rattle.std.proofs.Common.{arith}
use Rattle.walks.proofs.Reaching.{led_first, led_next}
use Rattle.walks.proofs.leads_to.Goals as goal

pub loop-a-init : goal.loop-a-init
loop-a-init c = (omega arith, led_first _ _ _ _)

pub loop-a-preserved : goal.loop-a-preserved
loop-a-preserved c =
    (omega arith, rw c.of-out.ensures (led_next c.args.succ.now.fit c.requires c.loop-a-test.true c.loop-a.invariant.1))
