use Rattle.std.proofs.Common.{arith, Ok, ◌∙◌}
use Rattle.std.proofs.lemmas.Result.{err_from_is_err_and}
use Rattle.table.proofs.Heads.{head_lookahead}
use Rattle.predictor.proofs.Leaving.{opened_taken}
use Rattle.predictor.proofs.Tables.{open_8, open_9, open_on, open_kept}
use Rattle.predictor.proofs.open.Goals as goal

pub returns-in_err-head : goal.returns-in_err-head
returns-in_err-head c =
    let p = err_from_is_err_and c.from_residual.result c.from_residual.ensures.1 in
    rw (p.1, p.2) (open_8 c.args.table.now c.args.fresh.now c.in_err-head.ensures)

pub overflow_add-head : goal.overflow_add-head
overflow_add-head c = omega (arith, head_lookahead c.in_ok-head.ensures)

pub returns-then-fresh-head : goal.returns-then-fresh-head
returns-then-fresh-head c = open_9 _ _ c.in_ok-head.ensures c.if-fresh-head.true

pub returns-in_err-resolved : goal.returns-in_err-resolved
returns-in_err-resolved c =
    let e = c.from_residual-in_err-resolved in
    let p = err_from_is_err_and e.result e.ensures.1 in
    rw (p.1, p.2) (open_kept _ _ c.in_ok-head.ensures c.if-fresh-head.false c.in_err-resolved.was c.decide_open.ensures)

pub returns : goal.returns
returns c =
    open_on c.args.table.now c.args.fresh.now c.in_ok-head.ensures c.if-fresh-head.false (Ok c.in_ok-resolved.resolved) c.in_ok-resolved.ensures
    (c.start.ensures ∙ rw c.last_after-last.ensures (opened_taken _ _ c.in_ok-resolved.resolved))
