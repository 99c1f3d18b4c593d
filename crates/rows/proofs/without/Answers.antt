use Rattle.std.proofs.Common.{◌<◌, arith, length}
use Rattle.rows.proofs.Removing.{without_first, without_next, union_first, union_next}
use Rattle.rows.proofs.without.Goals as goal

pub loop-s-init : goal.loop-s-init
loop-s-init c = (without_first, union_first)

pub loop-s-preserved : goal.loop-s-preserved
loop-s-preserved c =
    let (w, u) = c.loop-s.invariant in
    let room : c.loop-s.s < length c.loop-s.rows = omega (arith, w.long) in
    (without_next room w, union_next room _ u)
