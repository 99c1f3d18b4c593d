use Rattle.std.proofs.Common.{rules}
use Rattle.steps.specs.Steps.{stays}
use Rattle.steps.proofs.step.Goals as goal

pub returns-in-Over : goal.returns-in-Over
returns-in-Over c = rw c.in-Over.is (stays, search rules)
