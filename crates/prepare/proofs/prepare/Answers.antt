use Rattle.std.proofs.lemmas.Result.{err_from_is_err_and}
use Rattle.semiautomata.proofs.Places.{blank}
use Rattle.plan.specs.Bytes.{asked}
use Rattle.plan.proofs.Asked.{unread}
use Rattle.plan.proofs.Over.{over_means}
use Rattle.plan.proofs.Refusals.{asked_proper, number_some}
use Rattle.prepare.proofs.Answers.{prepares_asked}
use Rattle.prepare.proofs.Promises.{prepare_refused}
use Rattle.prepare.proofs.prepare.Goals as goal

pub load-requires : goal.load-requires
load-requires c = blank _

pub returns-in_err-loaded : goal.returns-in_err-loaded
returns-in_err-loaded c =
    let r = c.in_err-loaded.field-0.0 in
    let proper = asked_proper c.args.plan.now c.args.party in
    let p = err_from_is_err_and c.from_residual.result c.from_residual.ensures.1 in
    rw (p.1, p.2) (prepare_refused (asked c.args.plan.now c.args.party) proper r (unread _ proper c.in_err-loaded.ensures (number_some r) _))

pub prepare_loaded-requires : goal.prepare_loaded-requires
prepare_loaded-requires c =
    let (passes, holds, _, _) = c.in_ok-loaded.ensures in
    rw (over_means holds c.over-succ.result c.over-succ.ensures) ((asked_proper c.args.plan.now c.args.party).sized passes)

pub returns : goal.returns
returns c =
    let (passes, holds, _, _) = c.in_ok-loaded.ensures in
    let means = over_means holds c.over-succ.result c.over-succ.ensures in
    prepares_asked (asked c.args.plan.now c.args.party) (asked_proper c.args.plan.now c.args.party) passes means c.prepare_loaded.result _ _ _ _
    c.prepare_loaded.ensures
