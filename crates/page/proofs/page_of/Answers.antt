use Rattle.std.proofs.Common.{arith}
use Rattle.lines.proofs.Widths.{refused_width}
use Rattle.slices.proofs.Putting.{puts_back}
use Rattle.page.proofs.Printing.{line_printed}
use Rattle.page.proofs.page_of.Goals as goal

pub refused-requires : goal.refused-requires
refused-requires c = record { fits = omega (arith, c.requires, refused_width c.number.result (omega arith)) }

pub returns-in-Err : goal.returns-in-Err
returns-in-Err c =
    let (is, kept) = c.in-Err.ensures in
    line_printed _ c.in-Err.refusal is c.number.ensures (rw (← kept) (puts_back c.refused.ensures assumption))
