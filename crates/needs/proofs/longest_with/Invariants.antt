use Rattle.std.proofs.Common.{◌&&◌, nat_eq}
use Rattle.bitset.proofs.Taking.{Left, taken}
use Rattle.needs.specs.inner.Longest.{Most}
use Rattle.needs.proofs.longest_with.Given as goal

abbrev pub invariant-loop-t : goal.invariant-loop-t
invariant-loop-t l =
    Left 64 l.others l.t-iterator.rest
    × Most l.lifetimes (λ x t. nat_eq l.s x && taken l.others l.t-iterator.rest t) l.before l.longest
