use Rattle.std.proofs.Common.{refl}
use Rattle.pairs.proofs.Rounds.{first_ends}
use Rattle.pairs.proofs.strike_first.Goals as goal

pub returns : goal.returns
returns c =
    let (one, low) = c.share_letter-shared.ensures in
    let (w, u) = c.without.ensures in
    first_ends c.args.succ.now refl one low (rw c.requires at w) u
