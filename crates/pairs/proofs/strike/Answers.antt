use Rattle.std.proofs.Common.{get_or}
use lib.Bits.{bit_and}
use Rattle.pairs.proofs.Striking.{work_fits, struck_first, struck_next, struck_none}
use Rattle.pairs.proofs.strike.Goals as goal
use Rattle.pairs.proofs.strike.Goals.{then-out-ne0, else-out-ne0}

pub loop-s-init : goal.loop-s-init
loop-s-init c = rw c.requires (struck_first _ _ _)

pub strike_row-out-requires : goal.strike_row-out-requires
strike_row-out-requires c =
    let s = c.loop-s.s in
    let h = c.loop-s-test.true in
    (h, rw c.mask.ensures (work_fits _ s (bit_and (get_or c.args.look.now s 0) (get_or c.args.live.now s 0)) h))

pub loop-s-preserved : goal.loop-s-preserved
loop-s-preserved c =
    let struck = c.loop-s.invariant in
    let h = c.loop-s-test.true in
    let n = c.args.succ.now.fit.states in
    let out = rw c.mask.ensures at c.strike_row-out.ensures in
    elim c.if-out-ne0.branch [
      | then-out-ne0 w ↦
          rw (w.struck-is, w.gone-is) (struck_next _ _ _ h n out w.pair_up.ensures w.pair_up-then-out-ne0.ensures struck)
      | else-out-ne0 w ↦ rw (w.struck-is, w.gone-is) (struck_none _ _ _ h n out w.if-out-ne0.false struck)
    ]
