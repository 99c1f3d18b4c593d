-- Between two turns the starts up to this one are read.
use Rattle.plan.specs.Listed.{listed}
use Rattle.plan.proofs.Entering.{starts_to, StartsRead}
use Rattle.plan.proofs.Lists.enter_starts.Given as goal

abbrev pub invariant-loop-start : goal.invariant-loop-start
invariant-loop-start l = StartsRead (starts_to l.start-index (listed l.self)) l.set
