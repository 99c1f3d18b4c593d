use Rattle.std.proofs.Common.{arith}
use Rattle.walks.proofs.Filling.{backed_first, backed_next, backed_all, here_lt, next_lt, letter_lt}
use Rattle.walks.proofs.backward.Goals as goal

pub loop-i-init : goal.loop-i-init
loop-i-init c = let (_, letters, room, came) = c.requires in backed_first letters room came

pub back-requires : goal.back-requires
back-requires c =
    let i = c.loop-i.invariant in
    let h = c.loop-i-test.true in
    (here_lt i h, letter_lt i h, next_lt i h)

pub loop-i-preserved : goal.loop-i-preserved
loop-i-preserved c = backed_next c.loop-i.invariant c.loop-i-test.true c.back.ensures

pub returns : goal.returns
returns c = backed_all c.loop-i.invariant (omega (arith, c.loop-i-test.false))
