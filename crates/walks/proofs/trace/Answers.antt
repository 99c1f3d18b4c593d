use Rattle.std.proofs.Common.{sym, ◌∙◌}
use lib.Seq.{length-take-le}
use Rattle.walks.proofs.Longest.{longest_le}
use Rattle.walks.proofs.trace.Goals as goal

pub slice_bounds-backward-end : goal.slice_bounds-backward-end
slice_bounds-backward-end c = sym (length-take-le _ _ (longest_le _ _ c.forward-g.ensures.0))

pub returns : goal.returns
returns c =
    let (longest, forth) = c.forward-g.ensures in
    (longest, λ starts. let back = c.backward.ensures starts in record { sets = back.sets; kept = back.kept ∙ forth.kept })
