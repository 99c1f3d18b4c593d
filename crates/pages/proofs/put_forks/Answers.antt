-- The states one by one.
use Rattle.std.proofs.Common.{arith}
use Rattle.slices.specs.Appending.{each}
use Rattle.slices.proofs.Putting.{puts_none, each_room, each_next}
use Rattle.pages.proofs.put_forks.Goals as goal

pub loop-q-init : goal.loop-q-init
unfolding each
loop-q-init c = puts_none c.args.out.now (omega (arith, c.requires.1.fits))

pub put_row-requires : goal.put_row-requires
put_row-requires c = (c.loop-q-test.true, c.requires.0, each_room _ c.loop-q.q c.loop-q.invariant _ c.requires.1 c.loop-q-test.true)

pub loop-q-preserved : goal.loop-q-preserved
loop-q-preserved c = each_next _ c.loop-q.q c.loop-q.invariant c.put_row.ensures
