use Rattle.std.proofs.Common.{sym, ◌∙◌}
use Rattle.std.proofs.lemmas.Result.{err_from_is_err_and}
use Rattle.walks.proofs.Letters.{letters_below}
use Rattle.simulate.proofs.Walking.{walk_8, walk_9, walk_12, walk_13, walk_on_lem}
use Rattle.simulate.proofs.walk.Goals as goal

pub returns-in_err-succ : goal.returns-in_err-succ
returns-in_err-succ c =
    let p = err_from_is_err_and c.from_residual.result c.from_residual.ensures.1 in
    rw (p.1, p.2) (walk_8 _ _ _ c.in_err-succ.ensures)

pub returns-then-out-word : goal.returns-then-out-word
returns-then-out-word c = walk_9 _ _ _ c.in_ok-succ.ensures c.if-out-word.true

pub returns-then-letter_off : goal.returns-then-letter_off
returns-then-letter_off c = walk_12 _ _ _ c.in_ok-succ.ensures c.if-out-word.false (sym c.letter_off.ensures ∙ c.if-letter_off.true)

pub returns-then-succ-eq0 : goal.returns-then-succ-eq0
returns-then-succ-eq0 c =
    walk_13 _ _ _ c.in_ok-succ.ensures c.if-out-word.false (sym c.letter_off.ensures ∙ c.if-letter_off.false) c.if-succ-eq0.true

pub trace-g-requires : goal.trace-g-requires
trace-g-requires c =
    (c.in_ok-succ.field-0.succ.starts_fit, c.if-succ-eq0.false, letters_below _ _ (sym c.letter_off.ensures ∙ c.if-letter_off.false), c.if-out-word.false)

pub returns : goal.returns
returns c =
    let on = sym c.letter_off.ensures ∙ c.if-letter_off.false in
    let (g, sets) = c.trace-g.ensures in
    walk_on_lem _ _ _ c.in_ok-succ.ensures c.if-out-word.false on c.if-succ-eq0.false g (sets _) c.trace-g.auto.out
