-- The parties up to the highest one by one.
use Rattle.std.proofs.Common.{refl, ◌∙◌}
use Rattle.bitset.specs.Sets.{any}
use Rattle.plan.specs.Listed.{listed}
use Rattle.plan.specs.inner.Steps.{twice_of}
use Rattle.plan.proofs.Parting.{elsewhere_next, elsewhere_same}
use Rattle.plan.proofs.Lists.twice_elsewhere.Goals as goal
use Rattle.plan.proofs.Lists.twice_elsewhere.Goals.{then-other-party, else-other-party}

pub loop-other-init : goal.loop-other-init
unfolding any
loop-other-init c = refl

pub loop-other-preserved : goal.loop-other-preserved
loop-other-preserved c =
    let a = c.args in
    let found = twice_of (listed a.self.now) in
    elim c.if-other-party.branch [
      | then-other-party w ↦
          w.twice-is ∙ elsewhere_next a.party found c.loop-other.invariant w.if-other-party.true w.twice_of-twice.ensures
      | else-other-party w ↦ w.twice-is ∙ elsewhere_same a.party found c.loop-other.invariant w.if-other-party.false
    ]
