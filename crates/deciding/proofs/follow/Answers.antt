use Rattle.std.proofs.Common.{sym, ◌∙◌}
use Rattle.walks.proofs.Letters.{letters_below}
use Rattle.deciding.proofs.Letters.{stray_none}
use Rattle.deciding.proofs.follow.Goals as goal

pub returns-then-letter_off : goal.returns-then-letter_off
returns-then-letter_off c = stray_none c.args.succ.now c.args.set c.args.word.now (sym c.letter_off.ensures ∙ c.if-letter_off.true)

pub reach_by-requires : goal.reach_by-requires
reach_by-requires c = (c.requires, letters_below _ _ (sym c.letter_off.ensures ∙ c.if-letter_off.false))
