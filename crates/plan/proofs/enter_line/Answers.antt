-- The state is put in where the line is of the party.
use Rattle.plan.proofs.OneLine.{line_entered}
use Rattle.plan.proofs.enter_line.Goals as goal
use Rattle.plan.proofs.enter_line.Goals.{then-mine, else-mine}

pub returns : goal.returns
returns c = elim c.if-mine.branch [
  | then-mine w ↦ line_entered c.args.m c.args.party c.args.line c.args.sets.now (λ _. w.sets-is) (λ n. absurd (n w.if-mine.true))
  | else-mine w ↦ line_entered c.args.m c.args.party c.args.line c.args.sets.now (λ e. absurd (w.if-mine.false e)) (λ _. w.sets-is)
]
