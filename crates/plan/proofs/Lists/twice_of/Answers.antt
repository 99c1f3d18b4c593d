-- The lines of the party one by one.
use Rattle.semiautomata.proofs.Places.{blank}
use Rattle.plan.specs.Listed.{listed}
use Rattle.plan.proofs.Entering.{sought_none, sought_over, sought_next}
use Rattle.plan.proofs.Lists.twice_of.Goals as goal

pub loop-i-init : goal.loop-i-init
loop-i-init c = sought_none (listed c.args.self.now) c.args.party (blank _)

pub loop-i-preserved-then-line-party : goal.loop-i-preserved-then-line-party
loop-i-preserved-then-line-party c =
    let s = c.args.self.now.sound in
    sought_over (listed c.args.self.now) c.args.party s.states s.letters c.requires c.loop-i-test.true c.loop-i.invariant
    c.line-line.ensures c.if-line-party.true

pub loop-i-preserved : goal.loop-i-preserved
loop-i-preserved c =
    let s = c.args.self.now.sound in
    sought_next (listed c.args.self.now) c.args.party s.states s.letters c.requires c.loop-i-test.true c.loop-i.invariant
    c.line-line.ensures c.enter_line-again.ensures
