use Rattle.std.proofs.Common.{refl}
use native.Mathlib.Numerals.{add-one}
use Rattle.bitset.specs.Sets.{any}
use Rattle.walks.proofs.letter_off.Goals as goal

pub loop-letter-init : goal.loop-letter-init
unfolding any
loop-letter-init c = refl

pub loop-letter-preserved : goal.loop-letter-preserved
unfolding any
loop-letter-preserved c = rw (add-one, c.loop-letter.invariant) refl
