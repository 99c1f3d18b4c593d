-- The word, and then the other columns.
use Rattle.pages.proofs.Columns.{starts_made}
use Rattle.pages.proofs.fill_starts.Goals as goal

pub returns : goal.returns
returns c = starts_made c.args.need _ c.copy_from_slice.ensures.after c.fill_tail.ensures
