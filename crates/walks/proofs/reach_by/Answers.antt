use Rattle.std.proofs.Common.{sym}
use Rattle.bitset.proofs.Bits.{set_of_lt, set_of_has}
use Rattle.walks.proofs.Words.{next_set}
use Rattle.walks.proofs.reach_by.Goals as goal

pub loop-letter-init : goal.loop-letter-init
loop-letter-init c = λ _. sym (set_of_has _ _ c.requires.0)

pub gather-next-requires : goal.gather-next-requires
gather-next-requires c = (rw (c.loop-letter.invariant 0) (set_of_lt _ _), c.requires.1.below _ c.loop-letter-test.true)

pub loop-letter-preserved : goal.loop-letter-preserved
loop-letter-preserved c = λ starts.
    next_set _ _ _ _ c.loop-letter-test.true _ _ (c.loop-letter.invariant starts) (c.gather-next.ensures.0 starts)
