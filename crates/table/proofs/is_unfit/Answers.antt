use Rattle.std.proofs.Common.{arith, sym}
use Rattle.table.proofs.Fitness.{Ranged, refused, tested}
use borrow.Author.Tests.{lt-ltb, le-ltb}
use Rattle.table.proofs.is_unfit.Goals as goal
use Rattle.table.proofs.is_unfit.Goals.{then-n-lt1-via-then-n-lt1, then-n-lt1-via-else-n-lt1+then-n, then-n-lt1-via-else-n-lt1+else-n+then-m-lt1, then-n-lt1-via-else-n-lt1+else-n+else-m-lt1+then-m}

pub returns-then-table-lt-SETS_FROM : goal.returns-then-table-lt-SETS_FROM
returns-then-table-lt-SETS_FROM c = sym (refused _ (λ f. omega (arith, f.room, c.if-table-lt-SETS_FROM.true)))

pub returns-then-n-lt1 : goal.returns-then-n-lt1
returns-then-n-lt1 c = sym (refused _ (λ f. elim c.then-n-lt1.branch [
  | then-n-lt1-via-then-n-lt1 w ↦ omega (arith, f.some_state, w.if-n-lt1.true)
  | then-n-lt1-via-else-n-lt1+then-n w ↦ omega (arith, f.states, w.if-n.true)
  | then-n-lt1-via-else-n-lt1+else-n+then-m-lt1 w ↦ omega (arith, f.some_letter, w.if-m-lt1.true)
  | then-n-lt1-via-else-n-lt1+else-n+else-m-lt1+then-m w ↦ omega (arith, f.letters, w.if-m.true)
]))

pub returns-then-table-end : goal.returns-then-table-end
returns-then-table-end c = sym (refused _ (λ f. omega (arith, f.room, c.if-table-end.true)))

pub returns-then-n-table : goal.returns-then-n-table
returns-then-n-table c =
    let r : Ranged c.args.table.now = record { some_state = c.if-n-lt1.false; states = c.if-n.false; some_letter = c.if-m-lt1.false; letters = c.if-m.false } in
    let over = lt-ltb _ _ c.if-n-table.true in
    rw over (rw over at (tested r c.if-table-end.false _ _ c.union_of-all.ensures c.mask-mask.ensures))

pub returns-else-n-table : goal.returns-else-n-table
returns-else-n-table c =
    let r : Ranged c.args.table.now = record { some_state = c.if-n-lt1.false; states = c.if-n.false; some_letter = c.if-m-lt1.false; letters = c.if-m.false } in
    let under = le-ltb _ _ c.if-n-table.false in
    rw under at (tested r c.if-table-end.false _ _ c.union_of-all.ensures c.mask-mask.ensures)
