use Rattle.rows.specs.Rows.{Apart}
use Rattle.rows.proofs.common.Given as goal

abbrev pub invariant-loop-high : goal.invariant-loop-high
invariant-loop-high l = Apart l.live l.rival l.high
