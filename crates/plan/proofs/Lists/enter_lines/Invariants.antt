-- Between two turns the first i lines are read.
use Rattle.plan.specs.Listed.{listed}
use Rattle.plan.proofs.Entering.{lines_to, ReadOn}
use Rattle.plan.proofs.Lists.enter_lines.Given as goal

abbrev pub invariant-loop-i : goal.invariant-loop-i
invariant-loop-i l = ReadOn (lines_to l.i (listed l.self)) l.party l.sets l.off (record { twice = l.twice; highest = l.highest })
