use Rattle.pairs.specs.inner.Rounds.{Waking}
use Rattle.pairs.proofs.wake.Given as goal

abbrev pub invariant-loop-s : goal.invariant-loop-s
invariant-loop-s l = Waking l.back l.struck l.look l.s
