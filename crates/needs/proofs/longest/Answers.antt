use Rattle.std.proofs.Common.{arith, inl}
use Rattle.bitset.proofs.Taking.{left_next, next_below}
use Rattle.needs.proofs.Lives.{set_next, set_all}
use Rattle.needs.proofs.longest.Goals as goal

pub overflow_cast-s : goal.overflow_cast-s
overflow_cast-s c = omega (arith, next_below c.loop-s.invariant.0 c.in-Some.ensures.steps)

pub longest_with-longest-requires : goal.longest_with-longest-requires
longest_with-longest-requires c = next_below c.loop-s.invariant.0 c.in-Some.ensures.steps

pub loop-s-preserved : goal.loop-s-preserved
loop-s-preserved c =
    let (left, _, most) = c.loop-s.invariant in
    let taken = c.in-Some.ensures.steps in (
      left_next left taken,
      omega (arith, c.longest_with-longest.type_inv),
      set_next _ _ left most taken (rw c.mask.ensures at c.longest_with-longest.ensures),
    )

pub returns : goal.returns
returns c = let (left, few, most) = c.loop-s.invariant in set_all _ _ left most (inl c.in-None.ensures.steps.0) few
