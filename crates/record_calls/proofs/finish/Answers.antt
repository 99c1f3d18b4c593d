use Rattle.std.proofs.Common.{arith}
use Rattle.record_calls.proofs.Endings.{few_ended}
use Rattle.record_calls.proofs.finish.Goals as goal

pub overflow_cast-result : goal.overflow_cast-result
overflow_cast-result c = let (p, (l, _)) = c.in-Ok.ensures in omega (arith, few_ended _ _ _ p)
