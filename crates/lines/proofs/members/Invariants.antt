use Rattle.lines.proofs.Listing.{Listed}
use Rattle.lines.proofs.members.Given as goal

abbrev pub invariant-loop-s : goal.invariant-loop-s
invariant-loop-s l = Listed l.initial.out l.set l.s-iterator.rest l.out
