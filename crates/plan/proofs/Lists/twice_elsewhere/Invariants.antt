-- Between two turns the parties before this one are looked at.
use Rattle.std.proofs.Common.{◌≡◌, not, ◌&&◌, eqb}
use Rattle.bitset.specs.Sets.{any}
use Rattle.plan.specs.Listed.{listed}
use Rattle.plan.specs.inner.Steps.{twice_of}
use Rattle.plan.proofs.Lists.twice_elsewhere.Given as goal

abbrev pub invariant-loop-other : goal.invariant-loop-other
invariant-loop-other l = l.twice ≡ any l.other (λ q. not (eqb q l.party) && twice_of (listed l.self) q)
