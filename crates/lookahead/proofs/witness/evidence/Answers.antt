use Rattle.std.proofs.Common.{◌∙◌, arith}
use native.Mathlib.Nat.{mul-le-mul}
use Rattle.walks.proofs.Steps.{means_within}
use Rattle.pairs.proofs.Leading.{led_is}
use Rattle.pairs.proofs.Rounds.{lasting_on}
use Rattle.lookahead.proofs.Rivalry.{together_below}
use Rattle.lookahead.proofs.Trails.{place_pairs, trail_first, trail_few, trail_room, trail_next, trail_end}
use Rattle.lookahead.proofs.Claims.{claimed}
use Rattle.lookahead.proofs.witness.evidence.Goals as goal

pub overflow_mul-at : goal.overflow_mul-at
overflow_mul-at c =
    let A = c.args.succ.now in
    let (low, high) = together_below A c.requires.lasts.together in
    omega (arith, place_pairs A.fit.states _ _ low high)

pub overflow_add-at : goal.overflow_add-at
overflow_add-at c =
    let A = c.args.succ.now in
    let (low, high) = together_below A c.requires.lasts.together in
    omega (arith, place_pairs A.fit.states _ _ low high)

pub loop-seen-init : goal.loop-seen-init
loop-seen-init c =
    let A = c.args.succ.now in
    let (low, high) = together_below A c.requires.lasts.together in
    trail_first (means_within A) 4096 (mul-le-mul A.fit.states A.fit.states) low high c.requires.lasts.lives

-- the pair is led on to such a pair
pub unwrap-step-requires : goal.unwrap-step-requires
unwrap-step-requires c =
    let A = c.args.succ.now in
    let T = c.loop-seen.invariant in
    led_is A c.args.endless.now.live c.loop-seen.x c.loop-seen.y c.lead.result c.lead.ensures
    ∙ lasting_on A c.requires.lasts.lasting _ _ T.x_lt T.y_lt T.lives

pub bounds-letters-i : goal.bounds-letters-i
bounds-letters-i c = trail_room (means_within c.args.succ.now) c.loop-seen.invariant c.loop-seen-test.true c.requires.fit.0

pub overflow_mul-at-in-loop-seen : goal.overflow_mul-at-in-loop-seen
overflow_mul-at-in-loop-seen c =
    let A = c.args.succ.now in
    let W = means_within A in
    let led = rw c.unwrap-step.ensures at c.lead.ensures in
    omega (arith, place_pairs A.fit.states _ _ (W.to_lt _ _ _ led.first) (W.to_lt _ _ _ led.second))

pub overflow_add-at-in-loop-seen : goal.overflow_add-at-in-loop-seen
overflow_add-at-in-loop-seen c =
    let A = c.args.succ.now in
    let W = means_within A in
    let led = rw c.unwrap-step.ensures at c.lead.ensures in
    omega (arith, place_pairs A.fit.states _ _ (W.to_lt _ _ _ led.first) (W.to_lt _ _ _ led.second))

pub loop-seen-smaller : goal.loop-seen-smaller
loop-seen-smaller c = omega (arith, trail_few (means_within c.args.succ.now) c.loop-seen.invariant c.loop-seen-test.true)

pub loop-seen-preserved : goal.loop-seen-preserved
loop-seen-preserved c =
    let W = means_within c.args.succ.now in
    let T = c.loop-seen.invariant in
    let unseen = c.loop-seen-test.true in
    let led = rw c.unwrap-step.ensures at c.lead.ensures in
    trail_next W T unseen _ _ _ led.first led.second (trail_room W T unseen c.requires.fit.0) led.lives

pub overflow_sub-cycle : goal.overflow_sub-cycle
overflow_sub-cycle c =
    let (before, ringed) = trail_end (means_within c.args.succ.now) c.loop-seen.invariant c.loop-seen-test.false c.requires.fit.0 in
    omega (arith, before)

pub overflow_cast-result : goal.overflow_cast-result
overflow_cast-result c =
    let A = c.args.succ.now in
    omega (arith, (together_below A c.requires.lasts.together).0, A.fit.states)

pub overflow_cast-result-2 : goal.overflow_cast-result-2
overflow_cast-result-2 c =
    let A = c.args.succ.now in
    omega (arith, (together_below A c.requires.lasts.together).1, A.fit.states)

pub returns : goal.returns
returns c =
    let (before, ringed) = trail_end (means_within c.args.succ.now) c.loop-seen.invariant c.loop-seen-test.false c.requires.fit.0 in
    (claimed c.requires.lasts.order c.critical_set-set.ensures ringed (omega (arith, c.requires.fit.0, c.loop-seen.invariant.long)), ringed.kept)
