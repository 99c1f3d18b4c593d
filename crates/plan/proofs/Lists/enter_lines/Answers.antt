-- The lines one by one: each is entered, or passed over.
use native.Mathlib.Omega.{arith}
use Rattle.plan.specs.Listed.{listed}
use Rattle.plan.proofs.Entering.{read_none, read_on}
use Rattle.plan.proofs.Widths.{width_over}
use Rattle.plan.proofs.Lists.enter_lines.Goals as goal

pub loop-i-init : goal.loop-i-init
loop-i-init c = read_none (listed c.args.self.now) c.args.party c.requires

pub overflow_add-off : goal.overflow_add-off
overflow_add-off c =
    let s = c.args.self.now.sound in
    record {
      fits = omega (arith, c.loop-i.invariant.few, c.numbers_off-off.ensures.few, s.lines_end, width_over c.args.self.now.h.edition c.args.self.now.h.e);
    }

pub loop-i-preserved : goal.loop-i-preserved
loop-i-preserved c =
    let s = c.args.self.now.sound in
    read_on (listed c.args.self.now) c.args.party s.states s.letters c.loop-i.invariant c.line-line.ensures c.max-highest.ensures
    c.numbers_off-off.ensures c.enter_line-twice.ensures
