use Rattle.std.proofs.Common.{rules, arith}
use Rattle.steps.specs.Steps.{reads_on, begins, begins_last}
use Rattle.steps.proofs.step_plan.Goals as goal

pub returns-then-input-end : goal.returns-then-input-end
returns-then-input-end c =
    let (is, small) = c.wanted-end.ensures in
    rw is (reads_on c.if-from-input.true (rw is at c.if-input-end.true), record { order = omega (arith, c.if-input-end.true); fits = omega (arith, small) })

pub returns-in-Some-Going : goal.returns-in-Some-Going
returns-in-Some-Going c = (begins (grind arith) (rw c.in-Some-Going.field-0-is at c.in-Some-Going.ensures), search rules)

pub returns-in-Some-Ended : goal.returns-in-Some-Ended
returns-in-Some-Ended c = (begins_last (grind arith) (rw c.in-Some-Ended.field-0-is at c.in-Some-Ended.ensures), search rules)
