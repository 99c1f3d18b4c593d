use mathlib.Core.Bool.{not}
use Rattle.bitset.proofs.Taking.{Left, Picked}
use Rattle.semiautomata.specs.Means.{means}
use Rattle.pairs.specs.Sharing.{leads}
use Rattle.pairs.proofs.strike_row.Given as goal

abbrev pub invariant-loop-t : goal.invariant-loop-t
invariant-loop-t l =
    Left l.succ.n l.work l.t-iterator.rest
    × Picked l.work l.t-iterator.rest (λ t. not (leads (means l.succ) l.live l.s t)) l.out
