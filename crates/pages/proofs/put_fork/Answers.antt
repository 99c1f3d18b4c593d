-- Nothing, or the line where it stands.
use Rattle.std.proofs.Common.{refl, arith}
use Rattle.semiautomata.specs.Predictability.{fork}
use Rattle.pages.specs.inner.Rows.{states}
use Rattle.slices.proofs.Putting.{puts_none}
use Rattle.pages.proofs.Columns.{shown_none, shown_line, fork_long, filled_line}
use Rattle.pages.proofs.put_fork.Goals as goal

pub returns-then-need-eq-UNMEASURED : goal.returns-then-need-eq-UNMEASURED
returns-then-need-eq-UNMEASURED c =
    rw (shown_none (fork c.args.q c.args.a) c.args.need (states c.args.set) c.if-need-eq-UNMEASURED.true)
    (puts_none c.args.out.now (omega (arith, c.requires.2.fits)))

pub slice_bounds-fill_fork-end : goal.slice_bounds-fill_fork-end
slice_bounds-fill_fork-end c =
    let room = rw (shown_line (fork c.args.q c.args.a) c.args.need (states c.args.set) c.if-need-eq-UNMEASURED.false) at c.requires.2 in
    omega (arith, room.fits, fork_long c.args.q c.args.a c.args.need (states c.args.set) c.requires.0 c.requires.1 (omega arith))

pub returns : goal.returns
returns c =
    let is = shown_line (fork c.args.q c.args.a) c.args.need (states c.args.set) c.if-need-eq-UNMEASURED.false in
    let long = fork_long c.args.q c.args.a c.args.need (states c.args.set) c.requires.0 c.requires.1 (omega arith) in
    rw is (record {
      room = rw is at c.requires.2;
      end = omega (arith, long);
      is = filled_line c.args.out.now.out.now c.args.out.now.at long c.fill_fork.ensures;
      same_buffer = refl;
    })
