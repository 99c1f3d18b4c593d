-- What a step says is to be written lies within the buffer.
use Rattle.std.proofs.Common.{arith}
use Rattle.steps.proofs.Stepping.{count_within}
use Rattle.report.proofs.turn.Goals as goal

pub shared_ref_as_front-write_all : goal.shared_ref_as_front-write_all
shared_ref_as_front-write_all c = omega (arith, count_within c.step-next.ensures.0, c.step-next.auto.out)
