-- Signs over the front of blank columns.
use Rattle.std.proofs.Common.{◌≡◌, take, min, replicate, ◌∙◌, arith}
use Rattle.std.proofs.lemmas.List.{take-replicate}
use Rattle.pages.specs.Page.{longest_bar, bar}
use Rattle.pages.proofs.Columns.{bar_put}
use Rattle.pages.proofs.fill_bar.Goals as goal

pub returns : goal.returns
returns c =
    let signs : c.copy_from_slice.new.self ≡ bar c.args.count =
    c.copy_from_slice.ensures.after ∙ rw c.min-signs.ensures (take-replicate (min longest_bar c.args.count) longest_bar 35 (omega arith)) in
    bar_put c.args.count (rw (signs, c.min-signs.ensures, c.requires))
