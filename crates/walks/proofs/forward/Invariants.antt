use Rattle.walks.proofs.Filling.{Forth}
use Rattle.walks.proofs.forward.Given as goal

-- the sets up to place g are written, and `here`, the last of them, is not empty
abbrev pub invariant-loop-g : goal.invariant-loop-g
invariant-loop-g l = Forth l.succ l.set l.word l.initial.out l.here l.g l.out
