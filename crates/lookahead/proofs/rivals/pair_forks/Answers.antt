use Rattle.walks.proofs.Reaching.{led_first, led_next}
use Rattle.lookahead.proofs.Rivalry.{forked_first, forked_next, unforked_next}
use Rattle.lookahead.proofs.rivals.pair_forks.Goals as goal

pub loop-letter-init : goal.loop-letter-init
loop-letter-init c = let A = c.args.succ.now in (led_first A.n A.m A.sets.now c.args.q, λ _. forked_first)

pub loop-letter-preserved : goal.loop-letter-preserved
loop-letter-preserved c =
    let (led, none) = c.loop-letter.invariant in
    let q = c.requires in
    let letter = c.loop-letter-test.true in (
      rw c.of-set.ensures (led_next c.args.succ.now.fit q letter led),
      λ e. unforked_next q letter none (rw (c.but_least-several.ensures, c.of-set.ensures) at e),
    )

pub loop-letter-then-several-ne0-init : goal.loop-letter-then-several-ne0-init
loop-letter-then-several-ne0-init c = forked_first

pub loop-letter-then-several-ne0-preserved : goal.loop-letter-then-several-ne0-preserved
loop-letter-then-several-ne0-preserved c =
    forked_next (rw c.of.ensures at c.pair_set.ensures) c.loop-letter-then-several-ne0.invariant
