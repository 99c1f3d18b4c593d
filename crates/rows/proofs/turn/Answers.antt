use Rattle.std.proofs.Common.{◌≡◌, arith}
use Rattle.bitset.proofs.Bits.{has_lt}
use Rattle.semiautomata.proofs.Places.{place_fits, place_small}
use Rattle.rows.proofs.Turning.{turning_first, turning_next, turning_row, turning_all}
use Rattle.rows.proofs.turn.Goals as goal

pub loop-s-init : goal.loop-s-init
loop-s-init c = turning_first c.requires

pub join-requires : goal.join-requires
join-requires c =
    let f = c.args.succ.now.fit in
    let h = c.loop-a-test.true in (
      h,
      λ s e.
          let hs = has_lt _ _ s (place_fits f _ _ c.loop-s-test.true h) (rw c.of.ensures at e) in
          omega (arith, place_small f.states f.letters s _ hs h, c.loop-a.invariant.long),
    )

pub loop-a-preserved : goal.loop-a-preserved
loop-a-preserved c =
    turning_next c.loop-s-test.true c.loop-a-test.true (rw c.of.ensures at c.join.ensures) c.loop-a.invariant

pub loop-s-preserved : goal.loop-s-preserved
loop-s-preserved c =
    let e : c.loop-a.a ≡ c.args.succ.now.m = omega arith in
    turning_row _ (rw e at c.loop-a.invariant)

pub returns : goal.returns
returns c =
    let e : c.loop-s.s ≡ c.args.succ.now.n = omega arith in
    (c.loop-s.invariant.long, turning_all (rw e at c.loop-s.invariant))
