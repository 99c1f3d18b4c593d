use Rattle.std.proofs.Common.{◌≤◌}
use Rattle.bitset.proofs.Taking.{Left}
use Rattle.semiautomata.specs.Sizes.{endless}
use Rattle.needs.specs.inner.Longest.{Most}
use Rattle.needs.proofs.Lives.{lower}
use Rattle.needs.proofs.longest.Given as goal

abbrev pub invariant-loop-s : goal.invariant-loop-s
invariant-loop-s l =
    Left 64 l.set l.s-iterator.rest × (l.longest ≤ endless) × Most l.lifetimes (lower l.set l.s-iterator.rest) 0 l.longest
