-- What is read is what is loaded for party 0.
use Rattle.std.proofs.Common.{sym, ◌∙◌}
use Rattle.std.proofs.lemmas.Result.{err_from_is_err_and}
use Rattle.semiautomata.proofs.Places.{blank}
use Rattle.plan.proofs.Readings.{loaded_refused, loaded_counts}
use Rattle.plan.proofs.Refusals.{asked_zero}
use Rattle.plan.proofs.read.Goals as goal

pub load-requires : goal.load-requires
load-requires c = blank _

pub returns-in_err-loaded : goal.returns-in_err-loaded
returns-in_err-loaded c =
    let p = err_from_is_err_and c.from_residual.result c.from_residual.ensures.1 in
    rw (p.1, p.2) (loaded_refused _ _ c.in_err-loaded.ensures)

pub returns : goal.returns
returns c = let (w, _, e, _) = c.in_ok-loaded.ensures in loaded_counts _ (sym (asked_zero _) ∙ w) e
