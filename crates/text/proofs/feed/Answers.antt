use Rattle.std.proofs.Common.{arith}
use Rattle.refusals.specs.Named.{number_of}
use Rattle.slices.proofs.Putting.{puts_long}
use Rattle.lines.specs.Lines.{refused_line}
use Rattle.lines.proofs.Widths.{refused_width}
use Rattle.text.specs.Calls.{open_on}
use Rattle.text.proofs.Beginning.{adds_line, laid_back}
use Rattle.text.proofs.feed.Goals as goal

pub refused-requires : goal.refused-requires
refused-requires c =
    let (_, lays, few) = c.in-Err.ensures in
    record { fits = omega (arith, few, c.if-out-letters.false, puts_long lays.put, refused_width c.number.result (omega arith)) }

pub returns-in-Ok : goal.returns-in-Ok
returns-in-Ok c =
    let (fed, lays, few) = c.in-Ok.ensures in
    ((omega (arith, c.if-out-letters.false), fed, laid_back lays assumption), omega (arith, few))

pub returns-in-Err : goal.returns-in-Err
returns-in-Err c =
    let (fed, lays, few) = c.in-Err.ensures in
    let p = rw c.number.ensures at c.refused.ensures in (
      (
        omega (arith, c.if-out-letters.false),
        fed,
        laid_back (adds_line (refused_line (number_of c.in-Err.refusal)) (λ rest. open_on c.args.table.now c.fed.new.rec) lays p) assumption,
      ),
      omega (arith, few, c.refused.ensures.end, refused_width c.number.result (omega arith)),
    )
