use Rattle.std.proofs.Common.{arith}
use Rattle.bitset.proofs.Bits.{set_of_lt}
use Rattle.simulate.proofs.Minimality.{of_several, of_none, of_one_empty, of_one}
use Rattle.simulate.proofs.judge_set.Goals as goal

pub ending-requires : goal.ending-requires
ending-requires c = (rw (c.survivors_of-survivors.ensures 0) (set_of_lt _ _), c.requires.1)

pub returns-in-0 : goal.returns-in-0
returns-in-0 c = λ starts. of_none _ _ _ (c.survivors_of-survivors.ensures starts) c.in-0.is

pub returns-in-None : goal.returns-in-None
returns-in-None c = λ starts. of_one_empty _ _ _ (c.survivors_of-survivors.ensures starts) c.in-1.is c.in-None.ensures.cases

pub returns-in-Some : goal.returns-in-Some
returns-in-Some c = λ starts.
    of_one _ _ _ (c.survivors_of-survivors.ensures starts) c.in-1.is _ _ c.in-Some.ensures.cases (c.survivors_of.ensures starts)

pub returns-in_default : goal.returns-in_default
returns-in_default c = λ starts. of_several _ _ _ (c.survivors_of-survivors.ensures starts) (omega arith) (c.ending.ensures starts)
