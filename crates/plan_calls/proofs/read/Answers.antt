use Rattle.std.proofs.Common.{arith, refl, ◌∙◌, ap, Ok, Err}
use Rattle.refusals.specs.Outcomes.{refusing}
use Rattle.numbers.specs.Numbers.{answers, refuses}
use Rattle.plan_calls.proofs.Rooms.{no_room_zero}
use Rattle.plan_calls.proofs.read.Goals as goal

pub returns-then-counts-lt3 : goal.returns-then-counts-lt3
returns-then-counts-lt3 c = refuses (omega arith) (c.refused.ensures ∙ ap refusing c.no_room.ensures ∙ no_room_zero _) refl tt

pub returns-in-Ok : goal.returns-in-Ok
returns-in-Ok c = answers (omega arith) (Ok c.in-Ok.c) c.in-Ok.ensures (record {
  answered = c.from-in-Ok-3.ensures;
  written = rw (c.from.ensures, c.from-in-Ok.ensures, c.from-in-Ok-2.ensures) at c.copy.ensures;
})

pub returns-in-Err : goal.returns-in-Err
returns-in-Err c = answers (omega arith) (Err c.in-Err.r) c.in-Err.ensures (record { answered = c.refused-in-Err.ensures; written = refl })
