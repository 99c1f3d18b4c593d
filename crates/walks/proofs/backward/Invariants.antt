use Rattle.walks.proofs.Filling.{Backed}
use Rattle.walks.proofs.backward.Given as goal

-- the sets from place i on are the possible states, and those below are as they came
abbrev pub invariant-loop-i : goal.invariant-loop-i
invariant-loop-i l = Backed l.succ l.set l.word l.initial.out l.i l.out
