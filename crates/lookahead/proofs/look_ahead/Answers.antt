use Rattle.std.proofs.Common.{refl}
use Rattle.walks.proofs.Steps.{means_within}
use Rattle.lookahead.proofs.Rivalry.{parted_lookahead, endless_lasts}
use Rattle.lookahead.proofs.look_ahead.Goals as goal

pub evidence-requires-clause-lasts : goal.evidence-requires-clause-lasts
evidence-requires-clause-lasts c =
    let (lasting, two) = c.in-Err.ensures.0 in
    endless_lasts (means_within c.args.succ.now) c.rivals-reached.ensures.0 _ lasting two

pub returns-in-Ok : goal.returns-in-Ok
returns-in-Ok c = (parted_lookahead (means_within c.args.succ.now) c.rivals-reached.ensures.0 c.in-Ok.ensures.0, refl)
