use mathlib.Core.Bool.{◌&&◌}
use lib.Dec.{eqb}
use Rattle.bitset.proofs.Taking.{Left, taken}
use Rattle.pairs.specs.inner.Noting.{Noted}
use Rattle.pairs.proofs.lifetimes.note_row.Given as goal

abbrev pub invariant-loop-t : goal.invariant-loop-t
invariant-loop-t l =
    Left 64 l.set l.t-iterator.rest
    × Noted (λ x t. eqb l.s x && taken l.set l.t-iterator.rest t) l.letters l.fn.lifetimes l.lifetimes
