use Rattle.std.proofs.Common.{arith, refl, ◌∙◌, Ok, Err}
use Rattle.numbers.specs.Numbers.{answers}
use Rattle.numbers.proofs.Storing.{stored_two, bit_of_lem}
use Rattle.table_calls.proofs.judge.Goals as goal

pub returns-in-Ok : goal.returns-in-Ok
returns-in-Ok c = answers (omega arith) (Ok c.in-Ok.v) c.in-Ok.ensures (record {
  answered = c.from.ensures ∙ bit_of_lem c.in-Ok.v.minimal;
  written = stored_two c.args.sets.now _ _ (omega arith);
})

pub returns-in-Err : goal.returns-in-Err
returns-in-Err c = answers (omega arith) (Err c.in-Err.r) c.in-Err.ensures (record { answered = c.refused-in-Err.ensures; written = refl })
