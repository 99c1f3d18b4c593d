use Rattle.std.proofs.Common.{arith, ◌≡◌}
use Rattle.records.proofs.Held.{pushed_free, pushed_full, pushed_none}
use Rattle.records.proofs.push.Goals as goal

pub returns-then-h-k : goal.returns-then-h-k
returns-then-h-k c = pushed_free _ _ _ _ c.if-h-k.true c.requires.1

pub returns-then-k-gt0 : goal.returns-then-k-gt0
returns-then-k-gt0 c =
    let a = c.args in
    let full : a.h ≡ a.k = omega arith in
    rw (full, c.copy_within.ensures.after) (pushed_full a.k a.held.now a.letter (omega arith) (omega arith))

pub returns-else-k-gt0 : goal.returns-else-k-gt0
returns-else-k-gt0 c = pushed_none _ _ _ _ (omega arith) (omega arith)
