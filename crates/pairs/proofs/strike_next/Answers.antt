use Rattle.std.proofs.Common.{refl, arith}
use lib.Pow.{pow_pos}
use Rattle.rows.specs.Turned.{Turned}
use Rattle.rows.proofs.Turning.{turned_fit}
use Rattle.pairs.proofs.Rounds.{next_ends}
use Rattle.pairs.proofs.strike_next.Goals as goal
use Rattle.pairs.proofs.strike_next.Goals.{then-rounds-eq1, else-rounds-eq1}

pub invariant_of-turned : goal.invariant_of-turned
invariant_of-turned c =
    let at = c.requires.at in
    let is : Turned c.args.succ.now c.if-rounds-eq1.back =
    elim c.if-rounds-eq1.branch [
      | then-rounds-eq1 w ↦ rw w.back-is w.turn.ensures.1
      | else-rounds-eq1 w ↦ rw w.back-is (at.turned (omega (arith, c.requires.next, w.if-rounds-eq1.false)))
    ] in
    record { fit = turned_fit c.if-rounds-eq1.array_long is; starts_fit = pow_pos _ }

pub returns : goal.returns
returns c =
    let at = c.requires.at in
    let is : Turned c.args.succ.now c.if-rounds-eq1.back =
    elim c.if-rounds-eq1.branch [
      | then-rounds-eq1 w ↦ rw w.back-is w.turn.ensures.1
      | else-rounds-eq1 w ↦ rw w.back-is (at.turned (omega (arith, c.requires.next, w.if-rounds-eq1.false)))
    ] in
    (next_ends c.args.succ.now refl c.requires is c.wake.ensures c.strike.ensures, is)
