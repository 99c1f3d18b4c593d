use Rattle.std.proofs.Common.{arith}
use Rattle.numbers.specs.Numbers.{answers}
use Rattle.record_calls.proofs.open.Goals as goal

pub returns : goal.returns
returns c = answers (omega arith) c.open.result c.open.ensures c.pass_answer.ensures
