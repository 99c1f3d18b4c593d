-- The parts of the evidence make a true claim.
-- Assumes nothing.
use mathlib.Core.Path.{◌≡◌}
use mathlib.Core.List.{List}
use Prim.Native.Nat.{ℕ, ◌*◌, ◌≤◌, ◌<◌}
use native.Mathlib.Omega.{arith}
use lib.ListN.{length, take, drop, length-drop}
use lib.Seq.{length-take-le}
use Rattle.semiautomata.specs.Semiautomaton.{Semiautomaton}
use Rattle.semiautomata.specs.Predictability.{Claimed}
use Rattle.lookahead.specs.inner.Rivals.{Named}
use Rattle.lookahead.proofs.Trails.{Ringed}

pub claimed : {S : Semiautomaton} {q a s t stem cycle : ℕ} {old letters : List ℕ}
    → s < t → Named S q a s t → Ringed S s t stem cycle old letters
    → S.n * S.n ≤ length letters → Claimed S q a s t stem cycle letters
claimed {stem = stem} {cycle = cycle} {letters = letters} order k r room =
    let stem-long : length (take stem letters) ≡ stem = length-take-le stem letters (omega (arith, r.short)) in
    let cycle-long : length (take cycle (drop stem letters)) ≡ cycle =
    length-take-le cycle (drop stem letters) (rw length-drop (omega (arith, r.short))) in
    record {
      set = k.together.set;
      names = k.names;
      there = omega (arith, r.short);
      witness = record {
        counts = k.together.counts;
        s_in = k.together.left;
        t_in = k.together.right;
        order = order;
        turns = rw cycle-long r.turns;
        short = rw (stem-long, cycle-long) r.short;
        s_lasso = r.s_lasso;
        t_lasso = r.t_lasso;
      };
    }
