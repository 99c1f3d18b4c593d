-- Between two turns the lines of the states below q are put.
use Rattle.slices.specs.Appending.{each}
use Rattle.slices.specs.Filling.{Puts}
use Rattle.pages.specs.inner.Rows.{row_shown}
use Rattle.pages.proofs.put_forks.Given as goal

abbrev pub invariant-loop-q : goal.invariant-loop-q
invariant-loop-q l = Puts l.initial.out (each l.q (row_shown l.succ.m l.needs l.succ.sets.now)) l.out
