use Rattle.pairs.proofs.Striking.{waking_first, waking_none, waking_next}
use Rattle.pairs.proofs.wake.Goals as goal
use Rattle.pairs.proofs.wake.Goals.{then-set-ne0, else-set-ne0}

pub loop-s-init : goal.loop-s-init
loop-s-init c = waking_first

pub loop-s-preserved : goal.loop-s-preserved
loop-s-preserved c =
    let waking = c.loop-s.invariant in
    elim c.if-set-ne0.branch [
      | then-set-ne0 w ↦ rw w.look-is (waking_next c.requires c.loop-s-test.true w.wake_row.ensures waking)
      | else-set-ne0 w ↦ rw w.look-is (waking_none w.if-set-ne0.false waking)
    ]
