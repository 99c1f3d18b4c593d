use Rattle.std.proofs.Common.{arith}
use Rattle.lines.proofs.Widths.{refused_width}
use Rattle.text.proofs.Finishing.{record_long, finished_refused, finished_open}
use Rattle.text.proofs.ending.Goals as goal

pub fed_of-requires : goal.fed_of-requires
fed_of-requires c = record_long c.args.table.now c.args.rec.now c.in-Ok.ensures.0

pub refused-requires : goal.refused-requires
refused-requires c = record { fits = omega (arith, c.requires, refused_width c.number.result (omega arith)) }

pub returns-in-Ok : goal.returns-in-Ok
returns-in-Ok c =
    let (none, (count, sets)) = c.in-Ok.ensures in
    rw (finished_open c.args.table.now c.args.rec.now none c.in-Ok.count c.saturating_sub-first.result _ _ count sets (omega (arith, c.fed_of.ensures))) c.open_lines.ensures

pub returns-in-Err : goal.returns-in-Err
returns-in-Err c =
    let (is, some, _) = c.in-Err.ensures in
    rw (finished_refused c.args.table.now c.args.rec.now _ is some) (rw c.number.ensures at c.refused.ensures)
