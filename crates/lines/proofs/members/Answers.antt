use Rattle.std.proofs.Common.{arith}
use Rattle.lines.proofs.Listing.{listed_first, listed_room, listed_next, listed_all}
use Rattle.lines.proofs.members.Goals as goal

pub loop-s-init : goal.loop-s-init
loop-s-init c = rw (c.into_iter-s-iterator.ensures.into_iter_gives, c.of-s-items.ensures) (listed_first _ (omega arith) (omega (arith, c.requires.fits)))

pub field-requires : goal.field-requires
field-requires c = listed_room c.loop-s.invariant c.in-Some.ensures.steps c.requires

pub loop-s-preserved : goal.loop-s-preserved
loop-s-preserved c = listed_next c.loop-s.invariant c.in-Some.ensures.steps c.field.ensures

pub returns : goal.returns
returns c = listed_all c.loop-s.invariant c.in-None.ensures.steps.0
