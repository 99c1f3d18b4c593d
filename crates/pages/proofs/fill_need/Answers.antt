-- In blank columns stands what is put, right-aligned.
use Rattle.std.proofs.Common.{ℕ, List, set, sym, ◌∙◌, ap, arith}
use Rattle.decimals.proofs.Digits.{decimal_length}
use Rattle.decimals.proofs.Columns.{right_blank}
use Rattle.pages.proofs.Columns.{need_dash, need_number}
use Rattle.pages.proofs.fill_need.Goals as goal

pub right-requires : goal.right-requires
right-requires c = rw c.requires (decimal_length 5 c.args.need (omega arith))

pub returns-then-need-eq-ENDLESS : goal.returns-then-need-eq-ENDLESS
returns-then-need-eq-ENDLESS c = ap (λ (l : List ℕ). set l 5 45) c.requires ∙ sym (need_dash c.if-need-eq-ENDLESS.true)

pub returns-else-need-eq-ENDLESS : goal.returns-else-need-eq-ENDLESS
returns-else-need-eq-ENDLESS c = right_blank 6 c.args.need (rw c.requires at c.right.ensures) ∙ sym (need_number c.if-need-eq-ENDLESS.false)
