use Rattle.semiautomata.proofs.Places.{blank}
use Rattle.claim.proofs.check.Goals as goal

pub load-requires : goal.load-requires
load-requires c = blank _
