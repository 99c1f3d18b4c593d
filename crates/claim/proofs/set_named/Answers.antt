use Rattle.std.proofs.Common.{sym, ◌∙◌}
use Rattle.claim.proofs.Claims.{on_plan, named_none, named_unreached, named_fork}
use Rattle.claim.proofs.set_named.Goals as goal

pub returns-then-succ-q : goal.returns-then-succ-q
returns-then-succ-q c = named_none c.args.succ.now c.args.state c.args.letter c.if-state-letter.false c.if-succ-q.true

pub returns-then-not-contains : goal.returns-then-not-contains
returns-then-not-contains c =
    let (state, letter) = on_plan c.args.succ.now c.args.state c.args.letter c.if-succ-q.false in
    named_unreached c.args.succ.now c.args.state c.args.letter c.if-state-letter.false c.reachable.ensures state letter
    (sym c.contains.ensures ∙ c.if-not-contains.true)

pub returns : goal.returns
returns c =
    let (state, letter) = on_plan c.args.succ.now c.args.state c.args.letter c.if-succ-q.false in
    rw c.of.ensures
    (named_fork c.args.succ.now c.args.state c.args.letter c.if-state-letter.false c.reachable.ensures state letter
    (sym c.contains.ensures ∙ c.if-not-contains.false))
