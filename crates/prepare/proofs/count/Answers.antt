use Rattle.std.proofs.lemmas.Result.{err_from_is_err_and}
use Rattle.semiautomata.proofs.Places.{blank}
use Rattle.plan.specs.Bytes.{asked}
use Rattle.plan.proofs.Asked.{unread}
use Rattle.plan.proofs.Over.{over_means}
use Rattle.plan.proofs.Refusals.{asked_proper, number_some}
use Rattle.prepare.proofs.Answers.{counts_asked}
use Rattle.prepare.proofs.Promises.{count_refused}
use Rattle.prepare.proofs.count.Goals as goal

pub load-requires : goal.load-requires
load-requires c = blank _

pub returns-in_err-read : goal.returns-in_err-read
returns-in_err-read c =
    let r = c.in_err-read.field-0.0 in
    let proper = asked_proper c.args.plan.now c.args.party in
    let p = err_from_is_err_and c.from_residual.result c.from_residual.ensures.1 in
    rw (p.1, p.2) (count_refused (asked c.args.plan.now c.args.party) proper r (unread _ proper c.in_err-read.ensures (number_some r) _))

pub count_loaded-requires : goal.count_loaded-requires
count_loaded-requires c =
    let (passes, holds, _, _) = c.in_ok-read.ensures in
    rw (over_means holds c.over-succ.result c.over-succ.ensures) ((asked_proper c.args.plan.now c.args.party).sized passes)

pub returns : goal.returns
returns c =
    let (passes, holds, _, _) = c.in_ok-read.ensures in
    let means = over_means holds c.over-succ.result c.over-succ.ensures in
    counts_asked (asked c.args.plan.now c.args.party) (asked_proper c.args.plan.now c.args.party) passes means c.count_loaded.result _ _
    c.count_loaded.ensures
