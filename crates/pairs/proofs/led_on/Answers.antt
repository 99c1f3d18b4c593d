use Rattle.std.proofs.Common.{refl}
use Rattle.bitset.specs.Numbers.{set_of}
use Rattle.pairs.proofs.Rounds.{led_on_with, led_on_without}
use Rattle.pairs.proofs.led_on.Goals as goal
use Rattle.pairs.proofs.led_on.Goals.{then-of-ne0, else-of-ne0}

pub loop-s-init : goal.loop-s-init
unfolding set_of
loop-s-init c = refl

pub loop-s-preserved : goal.loop-s-preserved
loop-s-preserved c =
    let A = c.args.succ.now in
    elim c.if-of-ne0.branch [
      | then-of-ne0 w ↦
          rw w.out-is (led_on_with A c.requires c.loop-s-test.true c.loop-s.invariant (rw c.of.ensures at w.if-of-ne0.true))
      | else-of-ne0 w ↦
          rw w.out-is (led_on_without A c.requires c.loop-s-test.true c.loop-s.invariant (rw c.of.ensures at w.if-of-ne0.false))
    ]
