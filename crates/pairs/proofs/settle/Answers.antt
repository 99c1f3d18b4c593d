use Rattle.std.proofs.Common.{arith, add-one}
use borrow.Author.Count.{below_more}
use Rattle.pairs.proofs.Rounds.{level_zero, at_first, round_early, round_few, standing, level_left, at_next, lasting}
use Rattle.pairs.proofs.Rounds.{some_sharing, no_sharing}
use Rattle.pairs.proofs.Timing.{noting_first, noting_next, noting_parted, noting_stable}
use Rattle.pairs.proofs.settle.Goals as goal

-- level 0 has no rivals
pub returns-in_default : goal.returns-in_default
returns-in_default c =
    let A = c.args.succ.now in
    let few = A.fit.states in
    let zero = level_zero A c.mask-all.ensures in
    let apart = c.in_default.ensures in (
      record { enough = no_sharing A zero apart; least = λ j h. absurd (omega arith) },
      noting_parted few (noting_first few zero) apart,
    )

-- and it repeats
pub returns-then-gone-eq0 : goal.returns-then-gone-eq0
returns-then-gone-eq0 c =
    let A = c.args.succ.now in
    let few = A.fit.states in
    let zero = level_zero A c.mask-all.ensures in
    let last = lasting A c.strike_first-gone.ensures zero c.if-gone-eq0.true in
    ((last, c.in-Some.ensures), noting_stable few (noting_first few zero) last)

pub loop-low-init : goal.loop-low-init
loop-low-init c =
    let A = c.args.succ.now in
    let zero = level_zero A c.mask-all.ensures in
    record {
      gone = c.strike_first-gone.result;
      at = at_first A c.mask-all.ensures c.strike_first-gone.ensures;
      some = c.if-gone-eq0.false;
      shared = below_more _ 0 (λ i h. absurd (omega arith)) (some_sharing A zero c.in-Some.ensures);
      noting = noting_first A.fit.states zero;
    }

pub without-requires : goal.without-requires
without-requires c = c.args.succ.now.fit.states

pub overflow_add-rounds : goal.overflow_add-rounds
overflow_add-rounds c =
    let i = c.loop-low.invariant in
    omega (arith, round_few c.args.succ.now i.at.ends i.some)

pub overflow_cast-rounds : goal.overflow_cast-rounds
overflow_cast-rounds c =
    let i = c.loop-low.invariant in
    omega (arith, round_few c.args.succ.now i.at.ends i.some)

-- this level has no rivals
pub returns-in_default-common : goal.returns-in_default-common
returns-in_default-common c =
    let A = c.args.succ.now in
    let few = A.fit.states in
    let i = c.loop-low.invariant in
    let left = level_left A i.at c.without.ensures.0 in
    let short = round_few A i.at.ends i.some in
    let apart = c.in_default-common.ensures in (
      record { enough = rw add-one (no_sharing A left apart); least = i.shared },
      noting_parted few (noting_next few i.noting i.at.level left i.at.ends short (rw add-one at c.note.ensures)) apart,
    )

pub strike_next-gone-requires : goal.strike_next-gone-requires
strike_next-gone-requires c = rw add-one (standing c.args.succ.now c.loop-low.invariant.at c.without.ensures.0)

-- and it repeats
pub returns-then-gone-eq0-2 : goal.returns-then-gone-eq0-2
returns-then-gone-eq0-2 c =
    let A = c.args.succ.now in
    let few = A.fit.states in
    let i = c.loop-low.invariant in
    let left = level_left A i.at c.without.ensures.0 in
    let short = round_few A i.at.ends i.some in
    let last = lasting A (rw add-one at c.strike_next-gone.ensures.0) left c.if-gone-eq0-2.true in (
      (last, c.in-Some-common.ensures),
      noting_stable few (noting_next few i.noting i.at.level left i.at.ends short (rw add-one at c.note.ensures)) last,
    )

pub loop-low-smaller : goal.loop-low-smaller
loop-low-smaller c =
    let i = c.loop-low.invariant in
    omega (arith, round_early c.args.succ.now i.at.ends i.some)

pub loop-low-preserved : goal.loop-low-preserved
loop-low-preserved c =
    let A = c.args.succ.now in
    let few = A.fit.states in
    let i = c.loop-low.invariant in
    let w = c.without.ensures.0 in
    let left = level_left A i.at w in
    let short = round_few A i.at.ends i.some in
    record {
      gone = c.strike_next-gone.result;
      at = rw add-one (at_next A i.at w (rw add-one at c.strike_next-gone.ensures));
      some = c.if-gone-eq0-2.false;
      shared = below_more _ _ i.shared (rw add-one (some_sharing A left c.in-Some-common.ensures));
      noting = noting_next few i.noting i.at.level left i.at.ends short (rw add-one at c.note.ensures);
    }
