use Rattle.std.proofs.Common.{◌∙◌, Ok, Err}
use Rattle.numbers.proofs.Storing.{bit_of_lem}
use Rattle.plan.specs.Bytes.{asked}
use Rattle.plan_calls.proofs.Evidence.{passes_check}
use Rattle.plan_calls.proofs.check.Goals as goal

pub returns-in-Ok : goal.returns-in-Ok
returns-in-Ok c =
    passes_check (asked c.args.plan.now c.args.party) c.args.claim.now c.args.letters.now c.claim_of.ensures (Ok c.in-Ok.yes) c.in-Ok.ensures
    (c.from.ensures ∙ bit_of_lem c.in-Ok.yes)

pub returns-in-Err : goal.returns-in-Err
returns-in-Err c =
    passes_check (asked c.args.plan.now c.args.party) c.args.claim.now c.args.letters.now c.claim_of.ensures (Err c.in-Err.r) c.in-Err.ensures
    c.refused.ensures
