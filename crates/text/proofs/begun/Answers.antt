use Rattle.std.proofs.Common.{◌≡◌, ℕ, List, take, refl, sym, ◌∙◌, ap, ◌++◌, false, arith}
use mathlib.Core.Logic.{inl, inr}
use lib.Seq.{length-take-le}
use Rattle.std.proofs.lemmas.Result.{err_from_is_err_and}
use Rattle.refusals.specs.declared.Refusal.TheVariants.{Size}
use Rattle.slices.proofs.Putting.{puts_long}
use Rattle.plan.specs.Bytes.{meaning}
use Rattle.inputs.specs.Inputs.{plan_of, no_plan}
use Rattle.inputs.proofs.Inputs.{whole}
use Rattle.lines.proofs.Widths.{counts_width}
use Rattle.text.specs.Report.{input_letters, AfterCounts, no_plan_lem}
use Rattle.text.specs.Calls.{walk_on, ReportText, unread, read}
use Rattle.text.proofs.Beginning.{lays_on, lays_refused, read_ill, read_well}
use Rattle.text.proofs.begun.Goals as goal

pub returns-then-no_plan : goal.returns-then-no_plan
returns-then-no_plan c =
    let e = sym c.no_plan.ensures ∙ c.if-no_plan.true in
    (lays_refused _ _ Size (omega (arith, c.requires.2)) (λ rest told. no_plan_lem (told e)), unread (inl e) refl refl refl)

pub slice_bounds-plan-end : goal.slice_bounds-plan-end
slice_bounds-plan-end c =
    let i = c.args.input.now in
    sym (length-take-le c.total.result i (omega (arith, c.total.ensures.0, (whole i (sym c.no_plan.ensures ∙ c.if-no_plan.false)).there)))

pub returns-in_err-counts : goal.returns-in_err-counts
returns-in_err-counts c =
    let p = err_from_is_err_and c.from_residual.result c.from_residual.ensures.1 in
    let (ill, says) =
    read_ill c.args.input.now (sym c.no_plan.ensures ∙ c.if-no_plan.false) c.in_err-counts.field-0.0 (rw c.total.ensures.0 at c.in_err-counts.ensures) in
    rw (p.1, p.2) (lays_refused _ _ c.in_err-counts.field-0.0 (omega (arith, c.requires.2)) says, unread (inr ill) refl refl refl)

pub counts-requires : goal.counts-requires
counts-requires c =
    let k = c.in_ok-counts.counts in
    record { fits = omega (arith, c.requires.2, counts_width k.n k.m k.p k.e (omega arith) (omega arith) (omega arith) (omega arith)) }

pub prepared-requires : goal.prepared-requires
prepared-requires c =
    let i = c.args.input.now in
    let k = c.in_ok-counts.counts in
    let p = c.counts.ensures in
    let part : take c.total.result i ≡ plan_of i = ap (λ (x : ℕ). take x i) c.total.ensures.0 in (
      rw part (read_well i (sym c.no_plan.ensures ∙ c.if-no_plan.false) (rw part at c.in_ok-counts.ensures)).0,
      c.requires.0,
      c.requires.1,
      omega (
        arith,
        c.requires.2,
        p.end,
        puts_long p,
        counts_width k.n k.m k.p k.e (omega arith) (omega arith) (omega arith) (omega arith),
      ),
    )

pub returns : goal.returns
returns c =
    let i = c.args.input.now in
    let is_plan : no_plan i ≡ false = sym c.no_plan.ensures ∙ c.if-no_plan.false in
    let part : take c.total.result i ≡ plan_of i = ap (λ (x : ℕ). take x i) c.total.ensures.0 in
    let (well, says) = read_well i is_plan (rw part at c.in_ok-counts.ensures) in
    let (lays, leaves) = rw part at c.prepared.ensures in (
      lays_on (AfterCounts (meaning (plan_of i) 0)) (ReportText i) (λ (rest : List ℕ). input_letters i ++ rest) c.counts.ensures says c.prepared.result
          c.prepared.new.out (walk_on c.prepared.new.table c.prepared.new.rec) lays,
      read is_plan well leaves,
    )
