use Rattle.std.proofs.Common.{arith, sym, ap, ◌∙◌, ◌&&◌, Bool}
use Rattle.bitset.specs.Numbers.{has}
use Rattle.bitset.proofs.Bits.{set_of_lt, set_of_cong}
use Rattle.bitset.proofs.Taking.{left_first, left_next, next_below, picked_first, picked_with, picked_without, picked_all}
use Rattle.walks.proofs.Words.{alone_lt}
use Rattle.simulate.proofs.Endings.{stuck_ends, ends_any}
use Rattle.simulate.proofs.ending.Goals as goal

pub loop-s-init : goal.loop-s-init
loop-s-init c =
    rw (c.into_iter-s-iterator.ensures.into_iter_gives, c.of-s-items.ensures)
    (left_first _ _ c.args.succ.now.fit.states c.requires.0, picked_first _ _)

pub overflow_shl-member : goal.overflow_shl-member
overflow_shl-member c = omega (arith, next_below c.loop-s.invariant.0 c.in-Some.ensures.steps, c.args.succ.now.fit.states)

pub reach_by-requires : goal.reach_by-requires
reach_by-requires c = (alone_lt c.args.succ.now (next_below c.loop-s.invariant.0 c.in-Some.ensures.steps), c.requires.1)

pub stuck-requires : goal.stuck-requires
stuck-requires c = rw (c.reach_by.ensures 0) (set_of_lt _ _)

pub loop-s-preserved-then-stuck : goal.loop-s-preserved-then-stuck
loop-s-preserved-then-stuck c =
    let (left, picked) = c.loop-s.invariant in
    let taken = c.in-Some.ensures.steps in
    let ends = c.stuck.ensures _ ∙ stuck_ends c.args.succ.now (next_below left taken) c.args.word.now (c.reach_by.ensures _) in
    (left_next left taken, picked_with left taken (sym ends ∙ c.if-stuck.true) picked)

pub loop-s-preserved : goal.loop-s-preserved
loop-s-preserved c =
    let (left, picked) = c.loop-s.invariant in
    let taken = c.in-Some.ensures.steps in
    let ends = c.stuck.ensures _ ∙ stuck_ends c.args.succ.now (next_below left taken) c.args.word.now (c.reach_by.ensures _) in
    (left_next left taken, picked_without left taken (sym ends ∙ c.if-stuck.false) picked)

pub returns : goal.returns
returns c = λ starts.
    let (left, picked) = c.loop-s.invariant in
    let a = c.args in
    let x = a.succ.now in
    picked_all left c.in-None.ensures.steps.0 picked
    ∙ set_of_cong _ _ _ (λ t _. ap (λ (b : Bool). has a.set t && b) (ends_any x.n x.m x.starts starts x.sets.now a.word.now t))
