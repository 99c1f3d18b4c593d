use mathlib.Core.Bool.{and-false}
use borrow.Author.Tests.{ne_eqb}
use Rattle.simulate.proofs.Naming.{names_fork}
use Rattle.simulate.proofs.critical_set.Goals as goal
use Rattle.simulate.proofs.critical_set.Goals.{else-state-eq255-via-then-state-eq255+else-letter-eq0, else-state-eq255-via-else-state-eq255}

pub returns : goal.returns
returns c = names_fork c.args.succ.now _ _ (elim c.else-state-eq255.branch [
  | else-state-eq255-via-then-state-eq255+else-letter-eq0 w ↦ rw (ne_eqb c.args.letter 0 w.if-letter-eq0.false, and-false)
  | else-state-eq255-via-else-state-eq255 w ↦ rw (ne_eqb c.args.state 255 w.if-state-eq255.false)
]) c.if-q-succ.false c.if-a-succ.false c.of.ensures
