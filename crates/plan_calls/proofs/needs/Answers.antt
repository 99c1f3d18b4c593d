use Rattle.std.proofs.Common.{arith}
use Rattle.plan.proofs.Refusals.{asked_proper}
use Rattle.needs.proofs.Theorems.{needs_few}
use Rattle.plan_calls.proofs.needs.Goals as goal

pub overflow_cast-result : goal.overflow_cast-result
overflow_cast-result c = omega (arith, needs_few _ (asked_proper _ _) _ _ _ c.in-Ok.ensures)
