use Rattle.plan.proofs.Refusals.{well_formed_long, well_formed_sound}
use Rattle.plan.proofs.Lists.of.Goals as goal

pub header_of-requires : goal.header_of-requires
header_of-requires c = well_formed_long _ c.requires

pub invariant_of-result : goal.invariant_of-result
invariant_of-result c = record { sound = rw c.header_of.ensures (well_formed_sound _ c.requires) }
