use Rattle.std.proofs.Common.{refl}
use Rattle.needs.proofs.Entering.{filled}
use Rattle.needs.proofs.enter.Goals as goal

pub returns : goal.returns
returns c =
    let (rivalry, reached) = c.rivals-reached.ensures in
    filled c.args.succ.now rivalry (c.settle.ensures.1.0 refl) reached c.requires c.entry.ensures c.enter_forks.ensures
