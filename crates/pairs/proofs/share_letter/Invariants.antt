use Rattle.std.proofs.Common.{replicate}
use Rattle.semiautomata.specs.Means.{means}
use Rattle.pairs.specs.inner.Rounds.{led_on, Paired}
use Rattle.pairs.proofs.share_letter.Given as goal

abbrev pub invariant-loop-letter : goal.invariant-loop-letter
invariant-loop-letter l =
    let on = led_on (means l.succ) l.succ.n in
    Paired (replicate 64 0) l.live on on l.letter
