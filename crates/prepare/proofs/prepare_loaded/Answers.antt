use Rattle.refusals.specs.declared.Refusal.TheVariants.{Room}
use Rattle.prepare.proofs.Answers.{unchecked_proper, unchecked_passes}
use Rattle.prepare.proofs.Refusals.{table_short}
use Rattle.prepare.proofs.Promises.{prepare_refused}
use Rattle.prepare.proofs.prepare_loaded.Goals as goal

pub returns-then-table-succ : goal.returns-then-table-succ
returns-then-table-succ c =
    let proper = unchecked_proper c.requires in
    let passes = unchecked_passes c.requires in
    prepare_refused _ proper Room (table_short _ proper passes _ c.if-table-succ.true)
