use Rattle.bitset.proofs.Taking.{next_below}
use Rattle.walks.proofs.Reaching.{front_taken, reaching_front, fewer_left, reached_first, reached_next, reached_all}
use Rattle.lookahead.proofs.Rivalry.{gathered_first, gathered_same, gathered_next, rivalry}
use Rattle.lookahead.proofs.rivals.rivals.Goals as goal

pub loop-seen-init : goal.loop-seen-init
loop-seen-init c = let A = c.args.succ.now in (reached_first A, gathered_first A (rw c.requires at c.pair_set.ensures))

pub loop-q-init : goal.loop-q-init
loop-q-init c =
    let (reaching, gathered) = c.loop-seen.invariant in
    rw (c.into_iter-q-iterator.ensures.into_iter_gives, c.of-q-items.ensures)
    (reaching_front _ reaching, gathered_same c.args.succ.now (front_taken _ reaching) gathered)

pub loop-seen-smaller : goal.loop-seen-smaller
loop-seen-smaller c = fewer_left _ c.loop-seen.invariant.0 c.loop-seen-test.true

pub pair_forks-seen-requires : goal.pair_forks-seen-requires
pair_forks-seen-requires c = next_below c.loop-q.invariant.0.left c.in-Some.ensures.steps

pub loop-q-preserved : goal.loop-q-preserved
loop-q-preserved c =
    let A = c.args.succ.now in
    let (reaching, gathered) = c.loop-q.invariant in
    let taken = c.in-Some.ensures.steps in
    let (forked, led) = c.pair_forks-seen.ensures in
    (reached_next A reaching taken led, gathered_next A reaching.left taken forked gathered)

pub returns : goal.returns
returns c =
    let A = c.args.succ.now in
    let (reaching, gathered) = c.loop-seen.invariant in
    let all = reached_all A reaching c.loop-seen-test.false in
    (rivalry A all c.loop-seen-test.false gathered, all)
