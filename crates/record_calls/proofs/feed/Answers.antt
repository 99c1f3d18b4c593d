use Rattle.std.proofs.Common.{arith}
use Rattle.numbers.specs.Numbers.{answers}
use Rattle.record_calls.proofs.feed.Goals as goal

pub returns : goal.returns
returns c = answers (omega arith) c.feed.result c.feed.ensures c.pass_answer.ensures
