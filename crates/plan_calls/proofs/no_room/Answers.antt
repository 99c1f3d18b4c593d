use Rattle.semiautomata.proofs.Places.{blank}
use Rattle.plan.specs.Bytes.{asked}
use Rattle.plan.proofs.Refusals.{asked_proper, number_some}
use Rattle.plan_calls.proofs.Rooms.{no_room_refused, no_room_passed}
use Rattle.plan_calls.proofs.no_room.Goals as goal

pub load-requires : goal.load-requires
load-requires c = blank _

pub returns-in-Ok : goal.returns-in-Ok
returns-in-Ok c =
    no_room_passed (asked c.args.plan.now c.args.party) (asked_proper c.args.plan.now c.args.party) c.in-Ok.ensures.0

pub returns-in-Err : goal.returns-in-Err
returns-in-Err c =
    no_room_refused (asked c.args.plan.now c.args.party) (asked_proper c.args.plan.now c.args.party) c.in-Err.ensures (number_some c.in-Err.r)
