use Rattle.std.proofs.Common.{arith}
use Rattle.numbers.specs.Numbers.{answers}
use Rattle.plan.specs.Bytes.{asked}
use Rattle.plan.proofs.Refusals.{asked_proper}
use Rattle.plan_calls.proofs.Evidence.{prepares_fit}
use Rattle.plan_calls.proofs.prepare.Goals as goal

pub pass_prepared-requires : goal.pass_prepared-requires
pass_prepared-requires c = (
  prepares_fit (asked c.args.plan.now c.args.party) (asked_proper c.args.plan.now c.args.party) c.prepare.result _ _ _ _ c.prepare.ensures,
  omega arith,
)

pub returns : goal.returns
returns c = answers (omega arith) c.prepare.result c.prepare.ensures c.pass_prepared.ensures
