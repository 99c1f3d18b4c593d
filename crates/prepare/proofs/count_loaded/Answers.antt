use Rattle.std.proofs.lemmas.Result.{err_from_is_err_and}
use Rattle.refusals.specs.declared.Refusal.TheVariants.{Room}
use Rattle.prepare.proofs.Answers.{unchecked_proper, unchecked_passes}
use Rattle.prepare.proofs.Refusals.{count_short, count_clear}
use Rattle.prepare.proofs.Promises.{count_refused, count_never}
use Rattle.prepare.proofs.count_loaded.Goals as goal

pub returns-then-letters-succ : goal.returns-then-letters-succ
returns-then-letters-succ c =
    let proper = unchecked_proper c.requires in
    let passes = unchecked_passes c.requires in
    count_refused _ proper Room (count_short _ proper passes c.if-letters-succ.true)

pub returns-in_err-k : goal.returns-in_err-k
returns-in_err-k c =
    let proper = unchecked_proper c.requires in
    let passes = unchecked_passes c.requires in
    let p = err_from_is_err_and c.from_residual.result c.from_residual.ensures.1 in
    let (claimed, kept) = c.in_err-k.ensures in
    rw (p.1, p.2) (count_never _ proper (count_clear _ proper passes c.if-letters-succ.false) (record { claimed = claimed; kept = kept }))

pub returns : goal.returns
returns c =
    let (ahead, kept) = c.in_ok-k.ensures in
    ((count_clear _ (unchecked_proper c.requires) (unchecked_passes c.requires) c.if-letters-succ.false, ahead), kept)
