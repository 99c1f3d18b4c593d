use Rattle.std.proofs.lemmas.Result.{err_from_is_err_and}
use Rattle.semiautomata.proofs.Places.{blank}
use Rattle.plan.proofs.Over.{over_means}
use Rattle.plan.proofs.Refusals.{asked_proper}
use Rattle.needs.proofs.Answering.{needs_unread, needs_short, needs_filled}
use Rattle.needs.proofs.of_plan.Goals as goal

pub load-requires : goal.load-requires
load-requires c = blank _

pub returns-in_err-loaded : goal.returns-in_err-loaded
returns-in_err-loaded c =
    let p = err_from_is_err_and c.from_residual.result c.from_residual.ensures.1 in
    rw (p.1, p.2) (needs_unread _ (asked_proper c.args.plan.now c.args.party) c.in_err-loaded.field-0.0 c.in_err-loaded.ensures)

pub returns-then-needs-count : goal.returns-then-needs-count
returns-then-needs-count c =
    let (passes, holds, _, _) = c.in_ok-loaded.ensures in
    needs_short _ (asked_proper c.args.plan.now c.args.party) passes (over_means holds c.over-succ.result c.over-succ.ensures)
    c.if-needs-count.true

pub returns : goal.returns
returns c =
    let (passes, holds, _, _) = c.in_ok-loaded.ensures in
    needs_filled _ (asked_proper c.args.plan.now c.args.party) passes (over_means holds c.over-succ.result c.over-succ.ensures)
    c.if-needs-count.false c.enter.ensures
