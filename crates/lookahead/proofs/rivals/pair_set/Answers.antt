use Rattle.std.proofs.Common.{sym, ◌∙◌}
use Rattle.lookahead.proofs.Rivalry.{alone, matched_none}
use Rattle.lookahead.proofs.rivals.pair_set.Goals as goal

pub returns-else-but_least-ne0 : goal.returns-else-but_least-ne0
returns-else-but_least-ne0 c =
    matched_none (alone _ c.ranges.set.fits (sym c.but_least.ensures ∙ c.if-but_least-ne0.false))
