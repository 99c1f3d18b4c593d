use Rattle.std.proofs.Common.{refl, arith}
use Rattle.std.proofs.lemmas.Result.{err_from_is_err_and}
use Rattle.slices.proofs.Putting.{puts_long, puts_on}
use Rattle.text.proofs.Agreeing.{taken_goes}
use Rattle.text.proofs.Feeding.{put_none, upto_next, upto_refused}
use Rattle.text.proofs.fed.Goals as goal

pub loop-letter-init : goal.loop-letter-init
loop-letter-init c = put_none _ _ _ _ (omega (arith, c.requires))

pub resolution-requires : goal.resolution-requires
resolution-requires c =
    let i = c.loop-letter.invariant in
    omega (arith, c.requires, i.put.end, i.upto.few, c.loop-letter-test.true, puts_long i.put)

pub returns-in_err-resolved : goal.returns-in_err-resolved
returns-in_err-resolved c =
    let i = c.loop-letter.invariant in
    let (said, state) = c.in_err-resolved.ensures in
    let p = err_from_is_err_and c.from_residual.result c.from_residual.ensures.1 in
    let (fed, follows) = upto_refused i.upto (omega arith) said state refl in
    rw (p.1, p.2) (
      fed,
      record { text = i.text; put = i.put; follows = follows },
      omega (arith, i.put.end, i.upto.few, c.loop-letter-test.true),
    )

pub loop-letter-preserved : goal.loop-letter-preserved
loop-letter-preserved c =
    let i = c.loop-letter.invariant in
    let (said, state) = c.in_ok-resolved.ensures in
    let p = c.resolution.ensures.0 in
    record {
      text = _;
      put = puts_on i.put p;
      upto = upto_next i.upto (omega arith) said state (taken_goes c.in_ok-resolved.resolved) c.feed.auto.rec (omega (arith, p.end, c.resolution.ensures.1));
    }
