use Rattle.std.proofs.Common.{add-one}
use Rattle.bitset.specs.Sets.{any}
use Rattle.bitset.proofs.Bits.{has_or, has_empty}
use Rattle.table.proofs.union_of.Goals as goal

pub loop-set-init : goal.loop-set-init
unfolding any
loop-set-init c = has_empty

pub loop-set-preserved : goal.loop-set-preserved
unfolding any
loop-set-preserved c = λ t. rw (has_or, add-one, c.loop-set.invariant t)
