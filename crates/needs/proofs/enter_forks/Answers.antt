use Rattle.std.proofs.Common.{arith, ◌≡◌, ◌+◌, ◌<◌, length}
use Rattle.semiautomata.specs.Successors.{place}
use Rattle.semiautomata.proofs.BySets.{place_lt}
use Rattle.needs.proofs.Entering.{forks_next, forks_rows}
use Rattle.needs.proofs.enter_forks.Goals as goal

pub loop-a-preserved : goal.loop-a-preserved
loop-a-preserved c =
    let (_, forks) = c.loop-a.invariant in
    let room : place c.args.succ.now.m c.loop-q.q c.loop-a.a + 1 < length c.loop-a.needs = omega (
      arith,
      place_lt _ _ _ _ c.loop-q-test.true c.loop-a-test.true,
      forks.long,
      c.loop-q.invariant.1.long,
      c.requires,
    ) in
    (omega arith, forks_next _ _ _ (omega arith) c.loop-a-test.true room (rw (c.of.ensures, c.contains-counts.ensures) at c.entry.ensures) forks)

-- every letter of q is passed
pub loop-q-preserved : goal.loop-q-preserved
loop-q-preserved c =
    let e : c.loop-a.a ≡ c.args.succ.now.m = omega (arith, c.loop-a.invariant.0, c.loop-a-test.false) in
    (omega arith, forks_rows _ c.loop-q.invariant.1 (rw e at c.loop-a.invariant.1))
