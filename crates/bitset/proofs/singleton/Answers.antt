use mathlib.Core.Path.{◌∙◌, sym}
use native.Mathlib.Omega.{arith}
use lib.Pow.{pow_pos}
use borrow.Author.Tests.{ne_eqb}
use Rattle.bitset.proofs.Bits.{has_empty, is_set_of, pow_set_of, shl_one}
use Rattle.bitset.proofs.singleton.Goals as goal

pub returns-then-s-lt64 : goal.returns-then-s-lt64
returns-then-s-lt64 c = shl_one 64 c.before.args.s (omega arith) ∙ pow_set_of 64 c.before.args.s (omega arith)

pub returns-else-s-lt64 : goal.returns-else-s-lt64
returns-else-s-lt64 c = is_set_of 64 _ 0 (pow_pos 64) (λ t h. has_empty t ∙ sym (ne_eqb c.before.args.s t (λ e. omega arith)))
