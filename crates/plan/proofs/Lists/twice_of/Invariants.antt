-- Between two turns the lines of the party among the first i are entered.
use Rattle.plan.specs.Listed.{listed}
use Rattle.plan.proofs.Entering.{lines_to, Sought}
use Rattle.plan.proofs.Lists.twice_of.Given as goal

abbrev pub invariant-loop-i : goal.invariant-loop-i
invariant-loop-i l = Sought (lines_to l.i (listed l.self)) l.party l.sets l.again
