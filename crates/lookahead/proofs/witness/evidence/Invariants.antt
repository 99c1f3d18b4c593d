use Rattle.std.proofs.Common.{◌-◌, ◌*◌}
use Rattle.semiautomata.specs.Means.{means}
use Rattle.lookahead.proofs.Trails.{Trail}
use Rattle.lookahead.proofs.witness.evidence.Given as goal

abbrev pub invariant-loop-seen : goal.invariant-loop-seen
invariant-loop-seen l =
    Trail (means l.succ) l.endless.live l.endless.low l.endless.high l.fn.letters l.letters l.seen l.x l.y l.at l.i

abbrev pub decreases-loop-seen : goal.decreases-loop-seen
decreases-loop-seen l = l.succ.n * l.succ.n - l.i
