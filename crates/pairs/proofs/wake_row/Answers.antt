use Rattle.pairs.proofs.Pairing.{paired_first, paired_next, paired_none}
use Rattle.pairs.proofs.wake_row.Goals as goal
use Rattle.pairs.proofs.wake_row.Goals.{then-firsts-ne0, else-firsts-ne0}

pub loop-letter-init : goal.loop-letter-init
loop-letter-init c = paired_first

pub loop-letter-preserved : goal.loop-letter-preserved
loop-letter-preserved c =
    let paired = c.loop-letter.invariant in
    elim c.if-firsts-ne0.branch [
      | then-firsts-ne0 w ↦
          let set = w.gather-seconds.ensures.0 c.args.back.now.starts in
          rw w.look-is (paired_next (rw (c.of-firsts.ensures, set) at w.pair_up.ensures) paired)
      | else-firsts-ne0 w ↦ rw w.look-is (paired_none (rw c.of-firsts.ensures at w.if-firsts-ne0.false) paired)
    ]
