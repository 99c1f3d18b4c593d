use Rattle.std.proofs.Common.{arith}
use Rattle.std.proofs.lemmas.Result.{err_from_is_err_and}
use Rattle.table.proofs.Heads.{head_lookahead}
use Rattle.predictor.proofs.Ending.{end_8, end_9, end_10, end_on}
use Rattle.predictor.proofs.finish.Goals as goal

pub returns-in_err-head : goal.returns-in_err-head
returns-in_err-head c =
    let p = err_from_is_err_and c.from_residual.result c.from_residual.ensures.1 in
    rw (p.1, p.2) (end_8 c.args.table.now c.args.rec.now c.args.out.now c.in_err-head.ensures)

pub overflow_add-head : goal.overflow_add-head
overflow_add-head c = omega (arith, head_lookahead c.in_ok-head.ensures)

pub returns-then-rec-head : goal.returns-then-rec-head
returns-then-rec-head c = end_9 _ _ c.args.out.now c.in_ok-head.ensures c.then-rec-head.either

pub returns-then-stand-eq0 : goal.returns-then-stand-eq0
returns-then-stand-eq0 c = end_10 _ _ _ c.in_ok-head.ensures c.if-rec-head.false c.if-out-head.false c.stand.ensures c.if-stand-eq0.true

pub list_open-requires : goal.list_open-requires
list_open-requires c = (head_lookahead c.in_ok-head.ensures, c.if-out-head.false, c.if-rec-head.false, rw (← c.stand.ensures) c.if-stand-eq0.false)

pub returns : goal.returns
returns c = end_on _ _ _ c.in_ok-head.ensures c.if-rec-head.false c.if-out-head.false c.stand.ensures c.if-stand-eq0.false c.list_open.ensures
