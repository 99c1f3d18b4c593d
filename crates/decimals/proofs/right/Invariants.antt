-- Between two turns the last digits stand at the right.
use Rattle.decimals.specs.Decimals.{decimal}
use Rattle.decimals.proofs.Columns.{Spelled}
use Rattle.decimals.proofs.right.Given as goal

abbrev pub invariant-loop-rest : goal.invariant-loop-rest
invariant-loop-rest l = Spelled l.initial.columns l.x (decimal l.rest) l.first l.columns

abbrev pub decreases-loop-rest : goal.decreases-loop-rest
decreases-loop-rest l = l.rest
