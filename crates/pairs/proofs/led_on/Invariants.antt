use Rattle.std.proofs.Common.{◌≡◌}
use Rattle.semiautomata.specs.Means.{means}
use Rattle.pairs.specs.inner.Rounds.{led_on}
use Rattle.pairs.proofs.led_on.Given as goal

abbrev pub invariant-loop-s : goal.invariant-loop-s
invariant-loop-s l = l.out ≡ led_on (means l.succ) l.s l.letter
