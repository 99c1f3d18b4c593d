use Rattle.std.proofs.Common.{sym, ◌∙◌, arith}
use borrow.Author.Count.{below_more}
use Rattle.bitset.proofs.Below.{any_none}
use Rattle.bitset.proofs.Bits.{set_of_lt}
use Rattle.bitset.proofs.Taking.{left_first, left_next, next_below, next_in, passed_first, passed_next, passed_all}
use Rattle.lookahead.proofs.Rivalry.{together_below, names_initial, names_fork, together_none}
use Rattle.lookahead.proofs.witness.critical_set.Goals as goal

pub has_both-requires : goal.has_both-requires
has_both-requires c =
    let A = c.args.succ.now in
    let (s, t) = together_below A c.requires.0 in
    (omega (arith, s, A.fit.states), omega (arith, t, A.fit.states))

pub returns-then-has_both : goal.returns-then-has_both
returns-then-has_both c = names_initial c.args.succ.now c.args.s c.args.t (sym c.has_both.ensures ∙ c.if-has_both.true)

pub loop-q-init : goal.loop-q-init
loop-q-init c =
    let A = c.args.succ.now in
    rw (c.into_iter-q-iterator.ensures.into_iter_gives, c.of-q-items.ensures)
    (left_first A.n c.args.reached A.fit.states (rw c.requires.1 (set_of_lt A.n _)), passed_first _ _)

pub of-requires : goal.of-requires
of-requires c = (next_below c.loop-q.invariant.0 c.in-Some.ensures.steps, c.loop-letter-test.true)

pub has_both-requires-in-loop-letter : goal.has_both-requires-in-loop-letter
has_both-requires-in-loop-letter c =
    let A = c.args.succ.now in
    let (s, t) = together_below A c.requires.0 in
    (omega (arith, s, A.fit.states), omega (arith, t, A.fit.states))

pub overflow_cast-result : goal.overflow_cast-result
overflow_cast-result c =
    let left = c.loop-q.invariant.0 in
    omega (arith, next_below left c.in-Some.ensures.steps, left.width)

pub returns-then-has_both-2 : goal.returns-then-has_both-2
returns-then-has_both-2 c =
    let left = c.loop-q.invariant.0 in
    let taken = c.in-Some.ensures.steps in
    let here = rw c.of.ensures at (sym c.has_both-in-loop-letter.ensures ∙ c.if-has_both-2.true) in
    names_fork c.args.succ.now c.requires.1 c.args.s c.args.t _ _ (next_below left taken) c.loop-letter-test.true (next_in left taken) here

pub loop-letter-preserved : goal.loop-letter-preserved
loop-letter-preserved c =
    below_more _ _ c.loop-letter.invariant (rw c.of.ensures at (sym c.has_both-in-loop-letter.ensures ∙ c.if-has_both-2.false))

pub loop-q-preserved : goal.loop-q-preserved
loop-q-preserved c =
    let (left, passed) = c.loop-q.invariant in
    let taken = c.in-Some.ensures.steps in
    let none = any_none c.args.succ.now.m _ (λ a h. c.loop-letter.invariant a (omega arith)) in
    (left_next left taken, passed_next left taken none passed)

pub unreachable-requires : goal.unreachable-requires
unreachable-requires c =
    let (left, passed) = c.loop-q.invariant in
    let starts = sym c.has_both.ensures ∙ c.if-has_both.false in
    together_none c.args.succ.now c.requires.1 c.args.s c.args.t starts (passed_all left c.in-None.ensures.steps.0 passed) c.requires.0
