-- The letter, and then the state, in blank columns.
use Rattle.std.proofs.Common.{arith}
use Rattle.decimals.proofs.Digits.{decimal_length}
use Rattle.decimals.proofs.Columns.{right_blank}
use Rattle.pages.proofs.Columns.{label_put}
use Rattle.pages.proofs.fill_label.Goals as goal

pub right-requires : goal.right-requires
right-requires c = rw c.requires.0 (decimal_length 3 c.args.a (omega (arith, c.requires.2)))

pub right-requires-2 : goal.right-requires-2
right-requires-2 c = rw c.requires.0 (decimal_length 3 c.args.q (omega (arith, c.requires.1)))

pub returns : goal.returns
returns c =
    label_put _ _ c.requires.0 (right_blank 4 c.args.a (rw c.requires.0 at c.right.ensures))
    (right_blank 4 c.args.q (rw c.requires.0 at c.right-2.ensures))
