use Rattle.std.proofs.Common.{sym, ◌∙◌}
use Rattle.std.proofs.lemmas.Result.{err_from_is_err_and}
use Rattle.walks.proofs.Letters.{letters_below}
use Rattle.simulate.proofs.Naming.{judge_8, judge_letter, judge_none, judge_told}
use Rattle.simulate.proofs.judge.Goals as goal

pub returns-in_err-succ : goal.returns-in_err-succ
returns-in_err-succ c =
    let p = err_from_is_err_and c.from_residual.result c.from_residual.ensures.1 in
    rw (p.1, p.2) (judge_8 _ _ _ _ c.in_err-succ.ensures)

pub returns-then-letter_off : goal.returns-then-letter_off
returns-then-letter_off c = judge_letter _ _ _ _ c.in_ok-succ.ensures (sym c.letter_off.ensures ∙ c.if-letter_off.true)

pub returns-in_err-set : goal.returns-in_err-set
returns-in_err-set c =
    let p = err_from_is_err_and c.from_residual-in_err-set.result c.from_residual-in_err-set.ensures.1 in
    rw (p.1, p.2) (judge_none _ _ _ _ c.in_ok-succ.ensures c.in_err-set.ensures)

pub judge_set-requires : goal.judge_set-requires
judge_set-requires c = (c.in_ok-set.ensures.0, letters_below _ _ (sym c.letter_off.ensures ∙ c.if-letter_off.false))

pub returns : goal.returns
returns c = judge_told _ _ _ _ c.in_ok-succ.ensures (sym c.letter_off.ensures ∙ c.if-letter_off.false) c.in_ok-set.ensures (c.judge_set.ensures _)
