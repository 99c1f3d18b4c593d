use Rattle.semiautomata.specs.Successors.{place}
use Rattle.rows.proofs.Turning.{Turning}
use Rattle.rows.proofs.turn.Given as goal

abbrev pub invariant-loop-a : goal.invariant-loop-a
invariant-loop-a l = Turning l.succ (place l.succ.m l.s l.a) l.back

abbrev pub invariant-loop-s : goal.invariant-loop-s
invariant-loop-s l = Turning l.succ (place l.succ.m l.s 0) l.back
