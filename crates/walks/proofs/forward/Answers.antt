use Rattle.std.proofs.Common.{arith, ◌≡◌, length, length-set}
use Rattle.bitset.proofs.Bits.{set_of_lt}
use Rattle.walks.proofs.Words.{none_of, next_set}
use Rattle.walks.proofs.Filling.{forth_first, forth_next, forth_longest, forth_written}
use Rattle.walks.proofs.forward.Goals as goal

pub loop-g-init : goal.loop-g-init
loop-g-init c = let (below, some, _, room) = c.requires in forth_first c.args.out.now below some room

pub gather-next-requires : goal.gather-next-requires
gather-next-requires c = (rw c.loop-g.invariant.is (set_of_lt _ _), c.requires.2.below _ c.loop-g-test.true)

pub returns-then-next-eq0 : goal.returns-then-next-eq0
returns-then-next-eq0 c =
    let i = c.loop-g.invariant in
    let e = next_set _ _ _ _ c.loop-g-test.true _ _ i.is (c.gather-next.ensures.0 _) in
    (forth_longest i c.requires.0 (λ _. none_of _ _ e c.if-next-eq0.true), forth_written i)

pub loop-g-preserved : goal.loop-g-preserved
loop-g-preserved c =
    let i = c.loop-g.invariant in
    let h = c.loop-g-test.true in
    forth_next i (rw length-set c.requires.3) h (next_set _ _ _ _ h _ _ i.is (c.gather-next.ensures.0 _)) c.if-next-eq0.false

pub returns : goal.returns
returns c =
    let i = c.loop-g.invariant in
    let e : c.loop-g.g ≡ length c.args.word.now = omega (arith, i.at, c.loop-g-test.false) in
    let i = rw e at i in (forth_longest i c.requires.0 (λ h. absurd (omega arith)), forth_written i)
