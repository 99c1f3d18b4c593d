use Rattle.std.proofs.Common.{arith}
use borrow.Author.Count.{below_more}
use Rattle.rows.proofs.Searching.{row_none, row_some}
use Rattle.rows.proofs.common.Goals as goal

pub returns-in-Some : goal.returns-in-Some
returns-in-Some c =
    let w = row_some _ _ _ _ c.mask.ensures (rw c.of.ensures at c.in-Some.ensures.steps) in
    record { order = w.0; below = c.loop-high-test.true; lives = w.1; rivals = w.2 }

pub loop-high-preserved : goal.loop-high-preserved
loop-high-preserved c =
    let none = row_none _ _ _ _ c.mask.ensures (omega arith) (rw c.of.ensures at c.in_default.ensures.steps.0) in
    record { none = below_more _ _ c.loop-high.invariant.none none }
