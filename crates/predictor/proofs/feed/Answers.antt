use Rattle.std.proofs.Common.{arith, Ok, ◌∙◌}
use Rattle.std.proofs.lemmas.Result.{err_from_is_err_and}
use Rattle.semiautomata.specs.Means.{means}
use Rattle.table.proofs.Heads.{head_lookahead}
use Rattle.predictor.proofs.Leaving.{judged_ready, fed_taken}
use Rattle.predictor.proofs.Tables.{feed_8, feed_9, feed_on, feed_kept}
use Rattle.predictor.proofs.feed.Goals as goal

pub returns-in_err-head : goal.returns-in_err-head
returns-in_err-head c =
    let p = err_from_is_err_and c.from_residual.result c.from_residual.ensures.1 in
    rw (p.1, p.2) (feed_8 c.args.table.now c.args.rec.now c.args.letter c.in_err-head.ensures)

pub overflow_add-head : goal.overflow_add-head
overflow_add-head c = omega (arith, head_lookahead c.in_ok-head.ensures)

pub returns-then-rec-head : goal.returns-then-rec-head
returns-then-rec-head c = feed_9 _ _ c.in_ok-head.ensures _ c.if-rec-head.true

pub decide-requires : goal.decide-requires
decide-requires c = (c.if-rec-head.false, head_lookahead c.in_ok-head.ensures)

pub returns-in_err-resolved : goal.returns-in_err-resolved
returns-in_err-resolved c =
    let e = c.from_residual-in_err-resolved in
    let p = err_from_is_err_and e.result e.ensures.1 in
    rw (p.1, p.2) (feed_kept _ _ c.in_ok-head.ensures c.if-rec-head.false c.in_err-resolved.was _ c.decide.ensures)

pub overflow_cast-letter : goal.overflow_cast-letter
overflow_cast-letter c =
    let x = c.in_ok-head.head.succ in
    omega (arith, judged_ready (means x) c.in_ok-head.head.k c.args.rec.now c.args.letter x.fit.letters c.in_ok-resolved.resolved c.in_ok-resolved.ensures)

pub keep-requires : goal.keep-requires
keep-requires c =
    let x = c.in_ok-head.head.succ in
    let (tidied, room, _) = judged_ready (means x) c.in_ok-head.head.k c.args.rec.now c.args.letter x.fit.letters c.in_ok-resolved.resolved c.in_ok-resolved.ensures in
    (c.if-rec-head.false, tidied, room)

pub returns : goal.returns
returns c =
    feed_on c.args.table.now c.args.rec.now c.in_ok-head.ensures c.if-rec-head.false (Ok c.in_ok-resolved.resolved) c.args.letter c.in_ok-resolved.ensures
    (c.keep.ensures ∙ rw c.last_after-last.ensures (fed_taken _ _ _ c.in_ok-resolved.resolved))
