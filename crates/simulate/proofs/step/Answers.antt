use Rattle.std.proofs.Common.{arith}
use Rattle.std.proofs.lemmas.Result.{err_from_is_err_and}
use Rattle.table.proofs.Heads.{head_fits}
use Rattle.simulate.proofs.Stepping.{step_8, step_12_letter, step_12_set, step_in, step_on}
use Rattle.simulate.proofs.step.Goals as goal
use Rattle.simulate.proofs.step.Goals.{then-succ-letter-via-then-succ-letter, then-succ-letter-via-else-succ-letter+then-set-succ-gt1}

pub returns-in_err-succ : goal.returns-in_err-succ
returns-in_err-succ c =
    let p = err_from_is_err_and c.from_residual.result c.from_residual.ensures.1 in
    rw (p.1, p.2) (step_8 _ _ _ c.in_err-succ.ensures)

pub overflow_sub-succ : goal.overflow_sub-succ
overflow_sub-succ c = let h = c.in_ok-succ.ensures in omega (arith, h.n_is, (head_fits h).some_state)

pub returns-then-succ-letter : goal.returns-then-succ-letter
returns-then-succ-letter c =
    let h = c.in_ok-succ.ensures in
    elim c.then-succ-letter.branch [
      | then-succ-letter-via-then-succ-letter w ↦ step_12_letter _ _ _ h w.if-succ-letter.true
      | then-succ-letter-via-else-succ-letter+then-set-succ-gt1 w ↦ step_12_set _ _ _ h w.if-set-succ-gt1.true
    ]

pub gather-requires : goal.gather-requires
gather-requires c = (step_in c.args.table.now _ c.args.letter c.in_ok-succ.ensures c.if-set-succ-gt1.false, c.if-succ-letter.false)

pub returns : goal.returns
returns c =
    let (set, rounds) = c.gather.ensures in
    step_on _ _ _ c.in_ok-succ.ensures c.if-set-succ-gt1.false c.if-succ-letter.false (set _, rounds)
