-- Nothing, or the line where it stands.
use Rattle.std.proofs.Common.{refl, arith}
use Rattle.semiautomata.specs.Predictability.{initial}
use Rattle.pages.specs.inner.Rows.{states}
use Rattle.slices.proofs.Putting.{puts_none}
use Rattle.pages.proofs.Columns.{shown_none, shown_line, starts_long, filled_line}
use Rattle.pages.proofs.put_starts.Goals as goal

pub returns-then-need-eq-UNMEASURED : goal.returns-then-need-eq-UNMEASURED
returns-then-need-eq-UNMEASURED c =
    rw (shown_none initial c.args.need (states c.args.set) c.if-need-eq-UNMEASURED.true) (puts_none c.args.out.now (omega (arith, c.requires.fits)))

pub slice_bounds-fill_starts-end : goal.slice_bounds-fill_starts-end
slice_bounds-fill_starts-end c =
    let room = rw (shown_line initial c.args.need (states c.args.set) c.if-need-eq-UNMEASURED.false) at c.requires in
    omega (arith, room.fits, starts_long c.args.need (states c.args.set) (omega arith))

pub returns : goal.returns
returns c =
    let is = shown_line initial c.args.need (states c.args.set) c.if-need-eq-UNMEASURED.false in
    let long = starts_long c.args.need (states c.args.set) (omega arith) in
    rw is (record {
      room = rw is at c.requires;
      end = omega (arith, long);
      is = filled_line c.args.out.now.out.now c.args.out.now.at long c.fill_starts.ensures;
      same_buffer = refl;
    })
