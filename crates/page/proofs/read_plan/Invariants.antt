-- A turn reads a byte at least, and no more than the greatest plan has.
use Rattle.std.proofs.Common.{◌-◌, ◌≤◌, ◌≡◌, length}
use Rattle.page.proofs.read_plan.Given as goal

abbrev pub invariant-loop-end : goal.invariant-loop-end
invariant-loop-end l = (l.end ≤ 65535) × (length l.input ≡ length l.fn.input)

abbrev pub decreases-loop-end : goal.decreases-loop-end
decreases-loop-end l = 65535 - l.end
