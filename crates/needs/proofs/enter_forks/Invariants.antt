use Rattle.std.proofs.Common.{◌*◌, ◌≤◌}
use Rattle.semiautomata.specs.Successors.{place}
use Rattle.needs.specs.inner.Entering.{ForksEntered}
use Rattle.needs.proofs.enter_forks.Given as goal

abbrev pub invariant-loop-q : goal.invariant-loop-q
invariant-loop-q l =
    (l.q ≤ l.succ.n) × ForksEntered l.lifetimes l.succ.m l.succ.sets.now l.reached 0 (l.q * l.succ.m) l.initial.needs l.needs

abbrev pub invariant-loop-a : goal.invariant-loop-a
invariant-loop-a l =
    (l.a ≤ l.succ.m)
    × ForksEntered l.lifetimes l.succ.m l.succ.sets.now l.reached (l.q * l.succ.m) (place l.succ.m l.q l.a) l.initial.needs l.needs
