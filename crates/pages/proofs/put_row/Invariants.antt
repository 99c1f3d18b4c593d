-- Between two turns the lines of the first a letters are put.
use Rattle.slices.specs.Filling.{Puts}
use Rattle.pages.specs.inner.Rows.{row_to}
use Rattle.pages.proofs.put_row.Given as goal

abbrev pub invariant-loop-a : goal.invariant-loop-a
invariant-loop-a l = Puts l.initial.out (row_to l.succ.m l.needs l.succ.sets.now l.q l.a) l.out
