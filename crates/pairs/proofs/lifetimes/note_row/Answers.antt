use Rattle.std.proofs.Common.{arith}
use Rattle.bitset.proofs.Taking.{left_next, next_below}
use Rattle.pairs.proofs.Notes.{row_next, row_all}
use Rattle.pairs.proofs.lifetimes.note_row.Goals as goal

pub overflow_add-lifetimes : goal.overflow_add-lifetimes
overflow_add-lifetimes c = omega (arith, next_below c.loop-t.invariant.0 c.in-Some.ensures.steps)

pub offset_bounds-lifetimes-s : goal.offset_bounds-lifetimes-s
offset_bounds-lifetimes-s c = omega (arith, next_below c.loop-t.invariant.0 c.in-Some.ensures.steps)

pub bounds-lifetimes-s : goal.bounds-lifetimes-s
bounds-lifetimes-s c =
    let (left, noted) = c.loop-t.invariant in
    omega (arith, next_below left c.in-Some.ensures.steps, noted.long)

pub loop-t-preserved : goal.loop-t-preserved
loop-t-preserved c =
    let (left, noted) = c.loop-t.invariant in
    let taken = c.in-Some.ensures.steps in
    (left_next left taken, row_next _ _ left noted taken (omega (arith, next_below left taken, noted.long)))

pub returns : goal.returns
returns c = let (left, noted) = c.loop-t.invariant in row_all _ _ left noted c.in-None.ensures.steps.0
