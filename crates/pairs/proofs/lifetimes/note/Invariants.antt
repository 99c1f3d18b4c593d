use mathlib.Core.Bool.{◌&&◌}
use lib.Dec.{ltb}
use Rattle.rows.specs.Rows.{pair}
use Rattle.pairs.specs.inner.Noting.{Noted}
use Rattle.pairs.proofs.lifetimes.note.Given as goal

abbrev pub invariant-loop-s : goal.invariant-loop-s
invariant-loop-s l = Noted (λ x t. ltb x l.s && pair l.struck x t) l.letters l.fn.lifetimes l.lifetimes
