use Rattle.std.proofs.Common.{arith}
use Rattle.filing.proofs.Form.{written_few}
use Rattle.plan_calls.proofs.write.Goals as goal

pub overflow_cast-result : goal.overflow_cast-result
overflow_cast-result c = omega (arith, written_few _ _ _ _ c.in-Ok.ensures)
