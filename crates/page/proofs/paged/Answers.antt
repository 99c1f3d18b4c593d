use Rattle.std.proofs.Common.{◌≡◌, ℕ, take, sym, ◌∙◌, ap, arith}
use lib.Seq.{length-take-le}
use Rattle.inputs.specs.Inputs.{plan_of}
use Rattle.inputs.proofs.Inputs.{whole}
use Rattle.page.proofs.Printing.{no_plan_paged, plan_paged}
use Rattle.page.proofs.paged.Goals as goal

pub returns-then-no_plan : goal.returns-then-no_plan
returns-then-no_plan c = no_plan_paged _ (sym c.no_plan.ensures ∙ c.if-no_plan.true)

pub slice_bounds-of_plan-end : goal.slice_bounds-of_plan-end
slice_bounds-of_plan-end c =
    let i = c.args.input.now in
    sym (length-take-le c.total.result i (omega (arith, c.total.ensures.0, (whole i (sym c.no_plan.ensures ∙ c.if-no_plan.false)).there)))

pub returns : goal.returns
returns c =
    let i = c.args.input.now in
    let part : take c.total.result i ≡ plan_of i = ap (λ (x : ℕ). take x i) c.total.ensures.0 in
    plan_paged i (sym c.no_plan.ensures ∙ c.if-no_plan.false) c.requires c.of_plan.result (rw part at c.of_plan.ensures)
