-- The letters one by one.
use Rattle.std.proofs.Common.{arith}
use Rattle.slices.specs.Appending.{each}
use Rattle.slices.proofs.Putting.{puts_none, each_room, each_next}
use Rattle.pages.proofs.put_row.Goals as goal

pub loop-a-init : goal.loop-a-init
unfolding each
loop-a-init c = puts_none c.args.out.now (omega (arith, c.requires.2.fits))

pub put_fork-requires : goal.put_fork-requires
put_fork-requires c =
    let fit = c.args.succ.now.fit in (
      omega (arith, c.requires.0, fit.states),
      omega (arith, c.loop-a-test.true, fit.letters),
      rw c.of.ensures (each_room _ c.loop-a.a c.loop-a.invariant _ c.requires.2 c.loop-a-test.true),
    )

pub loop-a-preserved : goal.loop-a-preserved
loop-a-preserved c = each_next _ c.loop-a.a c.loop-a.invariant (rw c.of.ensures at c.put_fork.ensures)
