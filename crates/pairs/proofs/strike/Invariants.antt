use Rattle.semiautomata.specs.Means.{means}
use Rattle.pairs.specs.inner.Rounds.{Struck}
use Rattle.pairs.proofs.strike.Given as goal

abbrev pub invariant-loop-s : goal.invariant-loop-s
invariant-loop-s l = Struck (means l.succ) l.live l.look l.struck l.gone l.s
