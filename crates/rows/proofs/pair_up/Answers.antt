use Rattle.std.proofs.Common.{arith}
use Rattle.bitset.proofs.Bits.{has_lt}
use Rattle.rows.proofs.Joining.{joined_put}
use Rattle.rows.proofs.pair_up.Goals as goal

pub join-requires : goal.join-requires
join-requires c = (omega arith, λ s e. omega (arith, has_lt 64 _ s c.ranges.firsts.fits e))

pub returns : goal.returns
returns c = joined_put c.join.ensures
