use Rattle.std.proofs.Common.{arith}
use Rattle.numbers.specs.Numbers.{answers}
use Rattle.plan.specs.Bytes.{asked}
use Rattle.plan.proofs.Refusals.{asked_proper}
use Rattle.plan_calls.proofs.Evidence.{counts_fit}
use Rattle.plan_calls.proofs.look_ahead.Goals as goal

pub pass_prepared-requires : goal.pass_prepared-requires
pass_prepared-requires c = (
  counts_fit (asked c.args.plan.now c.args.party) (asked_proper c.args.plan.now c.args.party) c.count.result _ _ c.count.ensures,
  omega arith,
)

pub returns : goal.returns
returns c = answers (omega arith) c.count.result c.count.ensures c.pass_prepared.ensures
