use Rattle.std.proofs.Common.{sym, ◌∙◌}
use Rattle.records.specs.Bytes.{decode}
use Rattle.deciding.proofs.Standing.{keeps_in, from_lt, standing_untidy, standing_against, standing_walked}
use Rattle.deciding.proofs.stand.Goals as goal

pub returns-then-not-is_tidy : goal.returns-then-not-is_tidy
returns-then-not-is_tidy c = standing_untidy _ _ _ c.requires (sym c.is_tidy.ensures ∙ c.if-not-is_tidy.true)

pub returns-then-not-is_regular : goal.returns-then-not-is_regular
returns-then-not-is_regular c = standing_against _ _ _ c.requires (sym c.is_tidy.ensures ∙ c.if-not-is_tidy.false)
    (rw (c.fed_of-fed.ensures, c.held_of-held.ensures) at (sym c.is_regular.ensures ∙ c.if-not-is_regular.true))

pub follow-requires : goal.follow-requires
follow-requires c =
    let a = c.args in
    let passed = rw (c.fed_of-fed.ensures, c.held_of-held.ensures) at (sym c.is_regular.ensures ∙ c.if-not-is_regular.false) in
    from_lt a.succ.now a.k (decode a.rec.now) (keeps_in _ _ _ _ _ passed).last_lt c.base_of-base.ensures c.fed_of-fed.ensures

pub returns : goal.returns
returns c =
    let a = c.args in
    let passed = rw (c.fed_of-fed.ensures, c.held_of-held.ensures) at (sym c.is_regular.ensures ∙ c.if-not-is_regular.false) in
    standing_walked a.succ.now a.k a.rec.now c.requires (sym c.is_tidy.ensures ∙ c.if-not-is_tidy.false) passed
    c.base_of-base.ensures c.fed_of-fed.ensures c.letters_of.ensures (c.follow.ensures _)
