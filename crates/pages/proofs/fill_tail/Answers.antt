-- The bar, and then the need, in blank columns.
use Rattle.std.proofs.Common.{arith}
use Rattle.bitset.proofs.Counts.{ones_size}
use Rattle.pages.proofs.Columns.{tail_put}
use Rattle.pages.proofs.fill_tail.Goals as goal

pub returns : goal.returns
returns c = tail_put _ _ c.requires (rw (ones_size 64 c.args.set (omega arith)) at c.fill_bar.ensures) c.fill_need.ensures
