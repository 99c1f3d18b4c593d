use Rattle.rows.specs.Rows.{Without, Union}
use Rattle.rows.proofs.without.Given as goal

abbrev pub invariant-loop-s : goal.invariant-loop-s
invariant-loop-s l = Without l.fn.rows l.struck l.rows l.s × Union l.rows l.any l.s
