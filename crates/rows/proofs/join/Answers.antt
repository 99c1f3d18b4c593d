use Rattle.std.proofs.Common.{arith}
use Rattle.bitset.proofs.Taking.{left_next}
use Rattle.rows.proofs.Joining.{joining_room, joining_next, joining_all}
use Rattle.rows.proofs.join.Goals as goal

pub overflow_mul-rows : goal.overflow_mul-rows
overflow_mul-rows c =
    let i = c.loop-s.invariant in
    omega (arith, joining_room c.requires.1 i.left i.joined c.in-Some.ensures.steps)

pub overflow_add-rows : goal.overflow_add-rows
overflow_add-rows c =
    let i = c.loop-s.invariant in
    omega (arith, joining_room c.requires.1 i.left i.joined c.in-Some.ensures.steps)

pub offset_bounds-rows-s : goal.offset_bounds-rows-s
offset_bounds-rows-s c =
    let i = c.loop-s.invariant in
    omega (arith, joining_room c.requires.1 i.left i.joined c.in-Some.ensures.steps)

pub bounds-rows-s : goal.bounds-rows-s
bounds-rows-s c = let i = c.loop-s.invariant in joining_room c.requires.1 i.left i.joined c.in-Some.ensures.steps

pub bounds-rows-s-in-loop-s : goal.bounds-rows-s-in-loop-s
bounds-rows-s-in-loop-s c = let i = c.loop-s.invariant in joining_room c.requires.1 i.left i.joined c.in-Some.ensures.steps

pub loop-s-preserved : goal.loop-s-preserved
loop-s-preserved c =
    let i = c.loop-s.invariant in
    let t = c.in-Some.ensures.steps in
    let room = joining_room c.requires.1 i.left i.joined t in
    record { left = left_next i.left t; joined = joining_next c.requires.0 i.left t room i.joined }

pub returns : goal.returns
returns c = let i = c.loop-s.invariant in joining_all i.left c.in-None.ensures.steps.0 i.joined
