-- The page is that of the numbers entered: there is room for it, or not.
use Rattle.std.proofs.Common.{length-append, rules, arith}
use Rattle.slices.proofs.Putting.{puts_appended, puts_on, room_on}
use Rattle.pages.proofs.Answering.{lent_long, by_short, by_room, by_put}
use Rattle.pages.proofs.of_sets.Goals as goal

pub returns-then-page-count_lines : goal.returns-then-page-count_lines
returns-then-page-count_lines c = by_short c.args.succ.now c.enter.ensures c.count_lines.ensures.0 _ c.if-page-count_lines.true

pub put_starts-requires : goal.put_starts-requires
put_starts-requires c =
    let room = by_room c.args.succ.now c.enter.ensures c.count_lines.ensures.0 c.args.page.now c.if-page-count_lines.false in
    record { fits = omega (arith, simp length-append at room) }

pub put_forks-requires : goal.put_forks-requires
put_forks-requires c =
    let room = by_room c.args.succ.now c.enter.ensures c.count_lines.ensures.0 c.args.page.now c.if-page-count_lines.false in
    (omega (arith, lent_long c.args.succ.now c.enter.ensures), room_on c.put_starts.ensures (record { fits = omega (arith, room) }))

pub returns : goal.returns
returns c =
    by_put c.args.succ.now c.enter.ensures c.count_lines.ensures.0 c.args.page.now c.if-page-count_lines.false
    (puts_appended (puts_on c.put_starts.ensures c.put_forks.ensures)) (search rules)
