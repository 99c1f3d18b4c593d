use Rattle.std.proofs.Common.{refl, arith}
use Rattle.std.proofs.lemmas.Result.{err_from_is_err_and}
use Rattle.text.proofs.Agreeing.{opened_goes, opened_ends, taken_goes}
use Rattle.text.proofs.Beginning.{lays_refused}
use Rattle.text.proofs.opened.Goals as goal

pub returns-in_err-resolved : goal.returns-in_err-resolved
returns-in_err-resolved c =
    let (fit, ahead, room, lent) = c.requires in
    let (said, state) = c.in_err-resolved.ensures in
    let p = err_from_is_err_and c.from_residual.result c.from_residual.ensures.1 in
    rw (p.1, p.2) (
      lays_refused _ _ c.in_err-resolved.field-0.0 (omega (arith, lent)) (opened_ends c.args.table.now fit ahead c.args.rec.now room said state refl),
      state,
      rw (← said) refl,
    )

pub returns : goal.returns
returns c =
    let (fit, ahead, room, _) = c.requires in
    let (said, state) = c.in_ok-resolved.ensures in
    let goes = taken_goes c.in_ok-resolved.resolved in (
      record { text = _; put = c.resolution.ensures.0; follows = opened_goes c.args.table.now fit ahead c.args.rec.now room said state goes },
      state,
      rw (← said) goes,
    )
