use Rattle.std.proofs.Common.{arith}
use Rattle.slices.proofs.Putting.{puts_back}
use Rattle.text.proofs.finish.Goals as goal

pub returns : goal.returns
returns c = (omega arith, puts_back c.ending.ensures assumption)
