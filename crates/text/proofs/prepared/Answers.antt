use Rattle.std.proofs.Common.{refl, length, ◌∙◌, arith}
use Rattle.refusals.specs.declared.Refusal.TheVariants.{Unpredictable}
use Rattle.slices.proofs.Putting.{puts_long}
use Rattle.plan.specs.Bytes.{meaning, asked}
use Rattle.plan.proofs.Refusals.{asked_proper, well_formed_sized, number_some}
use Rattle.table.specs.Table.{lookahead_of, table_meaning}
use Rattle.prepare.proofs.Answers.{sized_reads, small}
use Rattle.prepare.proofs.Promises.{shown_never, prepare_refused_so}
use Rattle.text.specs.Report.{AfterLookahead, AfterCounts, never}
use Rattle.text.specs.Calls.{unpredictable, opens, walk_on}
use Rattle.lines.proofs.Widths.{lookahead_width}
use Rattle.text.proofs.Beginning.{prepare_taken, counted, lays_on, lays_refused}
use Rattle.text.proofs.prepared.Goals as goal

pub lookahead-requires : goal.lookahead-requires
lookahead-requires c =
    let few = small (well_formed_sized c.args.plan.now c.requires.0 0) c.in-Ok.k c.in-Ok.ensures.0.1 in
    record { fits = omega (arith, c.requires.3, lookahead_width c.in-Ok.k (omega (arith, few))) }

pub opened-requires : goal.opened-requires
opened-requires c =
    let sized = well_formed_sized c.args.plan.now c.requires.0 0 in
    let ahead = c.in-Ok.ensures.0.1 in
    let t = sized_reads sized ahead c.args.table.now c.in-Ok.ensures.1 in
    let p = c.lookahead.ensures in (
      t.fit,
      rw (t.means, t.k_is) ahead,
      c.requires.2,
      omega (arith, c.requires.3, p.end, puts_long p, lookahead_width c.in-Ok.k (omega (arith, small sized c.in-Ok.k ahead))),
    )

pub returns-in-Ok : goal.returns-in-Ok
returns-in-Ok c =
    let ahead = c.in-Ok.ensures.0.1 in
    let laid = c.in-Ok.ensures.1 in
    let t = sized_reads (well_formed_sized c.args.plan.now c.requires.0 0) ahead c.args.table.now laid in
    let (lays, left, ends) = c.opened.ensures in (
      lays_on (AfterLookahead (table_meaning c.prepare.new.table) (lookahead_of c.prepare.new.table)) (AfterCounts (meaning c.args.plan.now 0)) (λ l. l)
          c.lookahead.ensures (counted ahead t) c.opened.result c.opened.new.out (walk_on c.prepare.new.table c.opened.new.rec) lays,
      opens _ ahead laid left ends,
    )

pub returns-in-Err-Refused : goal.returns-in-Err-Refused
returns-in-Err-Refused c =
    let r = c.in-Err-Refused.refusal in
    let (e, _, _) =
    prepare_refused_so (asked c.args.plan.now 0) (asked_proper c.args.plan.now 0) r (rw c.in-Err-Refused.field-0-is at c.in-Err-Refused.ensures) in
    absurd (number_some r (e ∙ prepare_taken c.args.plan.now c.requires.0 (length c.args.table.now) 4096 c.requires.1 (omega arith)))

pub returns-in-Err-Unpredictable : goal.returns-in-Err-Unpredictable
returns-in-Err-Unpredictable c =
    let (_, kept, shown) = rw c.in-Err-Unpredictable.field-0-is at c.in-Err-Unpredictable.ensures in
    let none = shown_never shown in
    (lays_refused _ _ Unpredictable (omega (arith, c.requires.3)) (λ letters. never none), unpredictable none refl kept refl)
