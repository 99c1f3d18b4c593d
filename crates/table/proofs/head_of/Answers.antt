use Rattle.std.proofs.Common.{sym, ◌∙◌}
use Rattle.table.proofs.Fitness.{fitting}
use Rattle.table.proofs.Heads.{lent}
use Rattle.table.proofs.head_of.Goals as goal

pub invariant_of-succ : goal.invariant_of-succ
invariant_of-succ c = let f = fitting _ (sym c.is_unfit.ensures ∙ c.if-is_unfit.false) in record { fit = rw lent f.fit; starts_fit = f.initial }
