use Rattle.std.proofs.Common.{◌≡◌}
use Rattle.bitset.specs.Numbers.{set_of}
use Rattle.walks.specs.Walking.{led_by}
use Rattle.lookahead.specs.inner.Rivals.{Forked}
use Rattle.lookahead.proofs.rivals.pair_forks.Given as goal

-- the fork sets are joined; as long as none has two states, there is nothing to pair
abbrev pub invariant-loop-letter : goal.invariant-loop-letter
invariant-loop-letter l =
    (l.out ≡ set_of l.succ.n (led_by l.succ.m l.succ.sets.now l.q l.letter))
    × (l.several ≡ 0 → Forked l.succ l.q l.letter l.fn.rows l.fn.rows)

-- then they are paired
abbrev pub invariant-loop-letter-then-several-ne0 : goal.invariant-loop-letter-then-several-ne0
invariant-loop-letter-then-several-ne0 l = Forked l.succ l.q l.letter l.fn.rows l.rows
