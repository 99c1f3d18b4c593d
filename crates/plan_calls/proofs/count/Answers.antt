use Rattle.std.proofs.Common.{arith, refl}
use mathlib.Core.Logic.{inl, inr}
use Rattle.refusals.specs.Outcomes.{refused, answered}
use Rattle.plan.specs.Bytes.{asked}
use Rattle.plan.proofs.Asked.{clear_passes}
use Rattle.plan.proofs.Refusals.{asked_proper, number_some}
use Rattle.prepare.proofs.Promises.{shown_never, count_refused_so, count_never_so}
use Rattle.prepare.proofs.Refusals.{count_refuses}
use Rattle.prepare.proofs.Answers.{small}
use Rattle.plan_calls.proofs.count.Goals as goal

pub overflow_cast-result : goal.overflow_cast-result
overflow_cast-result c =
    let p = c.args.plan.now in
    let ((q, a), _) = c.in-Ok.ensures in
    omega (arith, small ((asked_proper p 0).sized (clear_passes (asked p 0) (asked_proper p 0) _ q)) _ a)

pub returns-in-Ok : goal.returns-in-Ok
returns-in-Ok c =
    let p = c.args.plan.now in
    let ((q, a), _) = c.in-Ok.ensures in
    record { outcome = answered _; looks_ahead = (clear_passes (asked p 0) (asked_proper p 0) _ q, a); is = refl }

pub returns-in-Err-Refused : goal.returns-in-Err-Refused
returns-in-Err-Refused c =
    let p = c.args.plan.now in
    let (a, _) = count_refused_so (asked p 0) (asked_proper p 0) c.in-Err-Refused.r
    (rw c.in-Err-Refused.field-0-is at c.in-Err-Refused.ensures) in
    let some = number_some c.in-Err-Refused.r in
    record { outcome = refused _; looks_ahead = inl ((count_refuses (asked p 0) (asked_proper p 0) a some).0, some); is = c.refused.ensures }

pub returns-in-Err-Unpredictable : goal.returns-in-Err-Unpredictable
returns-in-Err-Unpredictable c =
    let p = c.args.plan.now in
    let (q, s) = count_never_so (asked p 0) (asked_proper p 0)
    (rw c.in-Err-Unpredictable.field-0-is at c.in-Err-Unpredictable.ensures) in
    record {
      outcome = refused 15;
      looks_ahead = inr (clear_passes (asked p 0) (asked_proper p 0) _ q, refl, shown_never s);
      is = c.refused-in-Err-Unpredictable.ensures;
    }
