use Rattle.std.proofs.Common.{sym, ◌∙◌}
use Rattle.std.proofs.lemmas.Bool.{false≢true}
use Rattle.walks.proofs.Steps.{means_within}
use Rattle.walks.proofs.Letters.{letters_below, letters_stray, letters_take, letters_drop}
use Rattle.claim.proofs.Claims.{claimed_letters, states_lt, claimed_answer}
use Rattle.claim.proofs.is_true.Goals as goal

pub returns-then-letter_off : goal.returns-then-letter_off
returns-then-letter_off c = (
  λ e. absurd (false≢true e),
  λ _ k. letters_stray _ _ (sym c.letter_off.ensures ∙ c.if-letter_off.true)
      (claimed_letters (means_within c.args.succ.now) c.args.claim c.args.letters.now k),
)

pub has_lasso-requires : goal.has_lasso-requires
has_lasso-requires c =
    let S = means_within c.args.succ.now in
    let (low, _) = states_lt S c.args.claim c.args.letters.now c.set_named-set.ensures c.contains.ensures c.contains-2.ensures c.if-t-s.false in
    let word = letters_below _ _ (sym c.letter_off.ensures ∙ c.if-letter_off.false) in
    (low, rw c.split_at.ensures.front (letters_take _ word), rw c.split_at.ensures.back (letters_drop _ word))

pub has_lasso-requires-2 : goal.has_lasso-requires-2
has_lasso-requires-2 c =
    let S = means_within c.args.succ.now in
    let (_, high) = states_lt S c.args.claim c.args.letters.now c.set_named-set.ensures c.contains.ensures c.contains-2.ensures c.if-t-s.false in
    let word = letters_below _ _ (sym c.letter_off.ensures ∙ c.if-letter_off.false) in
    (high, rw c.split_at.ensures.front (letters_take _ word), rw c.split_at.ensures.back (letters_drop _ word))

pub returns : goal.returns
returns c =
    claimed_answer (means_within c.args.succ.now) c.args.claim c.args.letters.now c.set_named-set.ensures
    c.contains.ensures c.contains-2.ensures c.if-t-s.false c.if-cycle-succ.false
    (rw (c.split_at.ensures.front, c.split_at.ensures.back) at (c.has_lasso.ensures c.args.succ.now.starts))
    (rw (c.split_at.ensures.front, c.split_at.ensures.back) at (c.has_lasso-2.ensures c.args.succ.now.starts))
