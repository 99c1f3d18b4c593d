use Rattle.std.proofs.Common.{rules, arith}
use Rattle.steps.specs.Steps.{feeds, feeds_last, finishes}
use Rattle.steps.proofs.step_letters.Goals as goal

pub returns-then-is_empty : goal.returns-then-is_empty
returns-then-is_empty c = (finishes (grind arith) c.finish_at.ensures, search rules)

pub returns-in-Some-Going : goal.returns-in-Some-Going
returns-in-Some-Going c = (feeds (grind arith) (rw c.in-Some-Going.field-0-is at c.in-Some-Going.ensures).0, search rules)

pub returns-in-Some-Ended : goal.returns-in-Some-Ended
returns-in-Some-Ended c =
    (feeds_last (rw c.in-Some-Ended.field-0-is at c.in-Some-Ended.ensures).0 c.finish_at-in-Some-Ended.ensures, search rules)
