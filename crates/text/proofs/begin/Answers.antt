use Rattle.std.proofs.Common.{arith}
use Rattle.refusals.specs.Named.{number_of}
use Rattle.lines.specs.Lines.{refused_line}
use Rattle.text.proofs.Beginning.{adds_last, laid_back}
use Rattle.text.proofs.begin.Goals as goal

pub returns-in-Ok : goal.returns-in-Ok
returns-in-Ok c = let (lays, leaves) = c.in-Ok.ensures in ((omega arith, omega arith, omega arith), leaves, laid_back lays assumption)

pub returns-in-Err : goal.returns-in-Err
returns-in-Err c =
    let ((_, lays), leaves) = c.in-Err.ensures in
    let p = rw c.number.ensures at c.refused.ensures in
    ((omega arith, omega arith, omega arith), leaves, laid_back (adds_last (refused_line (number_of c.in-Err.refusal)) lays p) assumption)
