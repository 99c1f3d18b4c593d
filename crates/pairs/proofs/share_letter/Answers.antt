use Rattle.std.proofs.Common.{◌≡◌, arith}
use Rattle.pairs.proofs.Pairing.{paired_first, paired_next}
use Rattle.pairs.proofs.Rounds.{level_one, one_fits}
use Rattle.pairs.proofs.share_letter.Goals as goal

pub loop-letter-init : goal.loop-letter-init
loop-letter-init c = paired_first

pub loop-letter-preserved : goal.loop-letter-preserved
loop-letter-preserved c = paired_next (rw c.led_on-states.ensures at c.pair_up.ensures) c.loop-letter.invariant

pub returns : goal.returns
returns c =
    let A = c.args.succ.now in
    let e : c.loop-letter.letter ≡ A.m = omega arith in
    let k = rw e at c.loop-letter.invariant in
    (level_one A k, one_fits A k)
