use Rattle.std.proofs.Common.{ℕ, ◌<◌, ◌≡◌, false}
use Rattle.bitset.specs.Sets.{any}
use Rattle.bitset.proofs.Taking.{Left, Passed}
use Rattle.lookahead.specs.inner.Rivals.{both}
use Rattle.lookahead.proofs.witness.critical_set.Given as goal

-- no fork set that was passed has both
abbrev pub invariant-loop-q : goal.invariant-loop-q
invariant-loop-q l =
    Left l.succ.n l.reached l.q-iterator.rest
    × Passed l.reached l.q-iterator.rest (λ q. any l.succ.m (both l.succ q l.s l.t))

abbrev pub invariant-loop-letter : goal.invariant-loop-letter
invariant-loop-letter l = (a : ℕ) → a < l.letter → both l.succ l.q l.s l.t a ≡ false
