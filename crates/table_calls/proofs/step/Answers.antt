use Rattle.std.proofs.Common.{arith, refl, Ok, Err}
use Rattle.numbers.specs.Numbers.{answers}
use Rattle.numbers.proofs.Storing.{stored_one}
use Rattle.table_calls.proofs.step.Goals as goal

pub returns-in-Ok : goal.returns-in-Ok
returns-in-Ok c =
    answers (grind arith) (Ok c.in-Ok.g) c.in-Ok.ensures (record { answered = refl; written = stored_one c.args.next.now _ (grind arith) })

pub returns-in-Err : goal.returns-in-Err
returns-in-Err c = answers (grind arith) (Err c.in-Err.r) c.in-Err.ensures (record { answered = c.refused-in-Err.ensures; written = refl })
