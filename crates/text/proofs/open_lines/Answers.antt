use Rattle.std.proofs.Common.{arith}
use Rattle.text.proofs.Finishing.{lined_none, lined_room, lined_next}
use Rattle.text.proofs.open_lines.Goals as goal

pub loop-i-init : goal.loop-i-init
loop-i-init c = lined_none _ _ _ (omega (arith, c.requires.0))

pub open_line-requires : goal.open_line-requires
open_line-requires c = lined_room c.loop-i.invariant (omega arith) c.requires.0 (omega (arith, c.requires))

pub loop-i-preserved : goal.loop-i-preserved
loop-i-preserved c = lined_next c.loop-i.invariant (omega arith) (omega (arith, c.requires)) c.open_line.ensures
