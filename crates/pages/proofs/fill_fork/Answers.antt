-- Blanks, and then both halves.
use Rattle.pages.proofs.Columns.{fork_made}
use Rattle.pages.proofs.fill_fork.Goals as goal

pub returns : goal.returns
returns c = fork_made c.args.q c.args.a c.args.need _ c.copy_from_slice.ensures.after c.fill_tail.ensures c.fill_label.ensures
