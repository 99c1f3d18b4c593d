-- What is read next fits into the buffer.
use Rattle.std.proofs.Common.{◌≡◌, length}
use Rattle.steps.specs.Steps.{Readable}
use Rattle.report.proofs.main.Given as goal

abbrev pub invariant-loop : goal.invariant-loop
invariant-loop l = Readable l.stage × (length l.input ≡ 65535)
