use Rattle.bitset.proofs.Taking.{Left, Picked}
use Rattle.semiautomata.specs.Means.{means}
use Rattle.simulate.specs.inner.Verdicts.{ends}
use Rattle.simulate.proofs.ending.Given as goal

-- `out` has the members taken that can walk no longer word
abbrev pub invariant-loop-s : goal.invariant-loop-s
invariant-loop-s l = Left l.succ.n l.set l.s-iterator.rest × Picked l.set l.s-iterator.rest (ends (means l.succ) l.word) l.out
