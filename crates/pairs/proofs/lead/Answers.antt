use Rattle.std.proofs.Common.{arith, sym, ◌∙◌}
use borrow.Author.Count.{below_more}
use Rattle.bitset.proofs.Taking.{left_next, next_below, next_in, passed_next, passed_all}
use Rattle.semiautomata.proofs.Places.{place_fits}
use Rattle.pairs.proofs.Leading.{leads_hit, leads_none, met_some, met_none}
use Rattle.pairs.proofs.lead.Goals as goal

pub offset_bounds-rows-first : goal.offset_bounds-rows-first
offset_bounds-rows-first c =
    let (_, left, _) = c.firsts.invariant in
    omega (arith, next_below left c.in-Some.ensures.steps, left.width)

pub bounds-rows-first : goal.bounds-rows-first
bounds-rows-first c =
    let (_, left, _) = c.firsts.invariant in
    omega (arith, next_below left c.in-Some.ensures.steps, left.width)

pub firsts-preserved : goal.firsts-preserved
firsts-preserved c =
    let (_, left, passed) = c.firsts.invariant in
    let (none, rest) = c.seconds.invariant in
    let first = c.in-Some.ensures.steps in
    let met = met_none c.args.succ.now.n _ _ (rw c.of-seconds.ensures at (sym rest ∙ c.in-None-second.ensures.steps.0)) in
    (none, left_next left first, passed_next left first met passed)

pub letters-preserved : goal.letters-preserved
letters-preserved c =
    let (none, left, passed) = c.firsts.invariant in
    (none, below_more _ _ c.letters.invariant.1 (passed_all left c.in-None.ensures.steps.0 passed))

pub returns-after-letters : goal.returns-after-letters
returns-after-letters c =
    let (none, passed) = c.letters.invariant in
    rw none (leads_none c.args.succ.now c.args.rows.now c.args.s c.args.t (λ k h. passed k (omega arith)))

pub returns-in-Some-second : goal.returns-in-Some-second
returns-in-Some-second c =
    let A = c.args.succ.now in
    let (_, left, _) = c.firsts.invariant in
    let (_, rest) = c.seconds.invariant in
    let first = c.in-Some.ensures.steps in
    let fits = place_fits A.fit _ _ c.requires.1 c.letters-test.true in
    let second = met_some A.n _ _ A.fit.states fits (rw (rest, c.of-seconds.ensures) at c.in-Some-second.ensures.steps) in
    leads_hit A c.args.rows.now c.args.s c.args.t c.requires.0 c.requires.1 c.letters-test.true (next_in left first) second.0 second.1
