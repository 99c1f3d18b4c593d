use Rattle.std.proofs.Common.{◌≡◌, ◌≤◌}
use Rattle.bitset.specs.Numbers.{set_of}
use Rattle.walks.specs.Walking.{led_by}
use Rattle.walks.proofs.leads_to.Given as goal

-- `out` joins the sets of the letters below a
abbrev pub invariant-loop-a : goal.invariant-loop-a
invariant-loop-a l = (l.a ≤ l.succ.m) × (l.out ≡ set_of l.succ.n (led_by l.succ.m l.succ.sets.now l.s l.a))
