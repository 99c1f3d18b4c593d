use Rattle.text.proofs.Finishing.{Lined}
use Rattle.text.proofs.open_lines.Given as goal

abbrev pub invariant-loop-i : goal.invariant-loop-i
invariant-loop-i l = Lined l.first l.sets l.fn.out l.i l.out
