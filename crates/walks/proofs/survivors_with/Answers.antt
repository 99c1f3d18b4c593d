use Rattle.std.proofs.Common.{arith, sym, ◌∙◌, [], ◌∷◌, ◌++◌}
use Rattle.bitset.specs.Numbers.{has}
use Rattle.bitset.proofs.Bits.{set_of_lt, set_of_cong}
use Rattle.bitset.proofs.Taking.{left_first, left_next, next_below, picked_first, picked_with, picked_without, picked_all}
use Rattle.walks.proofs.Steps.{survivors_any}
use Rattle.walks.proofs.Words.{some_of, none_of, alone_lt, alone_step}
use Rattle.walks.proofs.survivors_with.Goals as goal

pub loop-s-init : goal.loop-s-init
loop-s-init c =
    rw (c.into_iter-s-iterator.ensures.into_iter_gives, c.of-s-items.ensures)
    (left_first _ _ c.args.succ.now.fit.states c.requires.0, picked_first _ _)

pub overflow_shl-member : goal.overflow_shl-member
overflow_shl-member c = omega (arith, next_below c.loop-s.invariant.0 c.in-Some.ensures.steps, c.args.succ.now.fit.states)

pub reach_by-here-requires : goal.reach_by-here-requires
reach_by-here-requires c = (alone_lt c.args.succ.now (next_below c.loop-s.invariant.0 c.in-Some.ensures.steps), c.requires.1)

pub gather-next-requires : goal.gather-next-requires
gather-next-requires c = (rw (c.reach_by-here.ensures 0) (set_of_lt _ _), c.requires.2)

pub loop-s-preserved-then-next-ne0 : goal.loop-s-preserved-then-next-ne0
loop-s-preserved-then-next-ne0 c =
    let (left, picked) = c.loop-s.invariant in
    let taken = c.in-Some.ensures.steps in
    let walks = alone_step c.args.succ.now (next_below left taken) c.args.word.now (c.reach_by-here.ensures _) c.args.letter in
    (left_next left taken, picked_with left taken (sym walks ∙ some_of _ _ (c.gather-next.ensures.0 _) c.if-next-ne0.true) picked)

pub loop-s-preserved : goal.loop-s-preserved
loop-s-preserved c =
    let (left, picked) = c.loop-s.invariant in
    let taken = c.in-Some.ensures.steps in
    let walks = alone_step c.args.succ.now (next_below left taken) c.args.word.now (c.reach_by-here.ensures _) c.args.letter in
    (left_next left taken, picked_without left taken (sym walks ∙ none_of _ _ (c.gather-next.ensures.0 _) c.if-next-ne0.false) picked)

pub returns : goal.returns
returns c = λ starts.
    let (left, picked) = c.loop-s.invariant in
    let a = c.args in
    let x = a.succ.now in
    picked_all left c.in-None.ensures.steps.0 picked
    ∙ set_of_cong _ _ _ (λ s _. survivors_any _ _ x.starts starts x.sets.now (has a.set) (a.word.now ++ (a.letter ∷ [])) s)
