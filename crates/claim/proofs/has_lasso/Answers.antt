use Rattle.bitset.proofs.Bits.{set_of_lt}
use Rattle.claim.proofs.Claims.{one_lt, loops, loops_any}
use Rattle.claim.proofs.has_lasso.Goals as goal

pub reach_by-knots-requires : goal.reach_by-knots-requires
reach_by-knots-requires c = (one_lt c.args.succ.now c.requires.0 c.singleton.ensures, c.requires.1)

pub comes_back-requires : goal.comes_back-requires
comes_back-requires c = (rw (c.reach_by-knots.ensures 0) (set_of_lt _ _), c.requires.2)

pub returns : goal.returns
returns c =
    loops_any c.args.succ.now
    (loops c.args.succ.now c.requires.0 c.singleton.ensures _ _ (c.reach_by-knots.ensures _) (c.comes_back.ensures _))
