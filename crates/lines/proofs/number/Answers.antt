use Rattle.std.proofs.Common.{arith}
use Rattle.decimals.proofs.Digits.{decimal_length}
use Rattle.lines.proofs.number.Goals as goal

pub right-first-requires : goal.right-first-requires
right-first-requires c = omega (arith, decimal_length 19 c.args.x (omega arith))
