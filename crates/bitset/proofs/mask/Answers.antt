use mathlib.Core.Path.{◌∙◌, sym}
use native.Mathlib.Nat.{le_of_lt, le_refl, lt_of_lt_of_le}
use borrow.Author.Tests.{lt-ltb}
use Rattle.bitset.proofs.Bits.{set_of_cong, mask_set_of, shl_one}
use Rattle.bitset.proofs.mask.Goals as goal

pub returns-then-n-ge64 : goal.returns-then-n-ge64
returns-then-n-ge64 c = mask_set_of 64 64 (le_refl 64) ∙ set_of_cong 64 _ _ (λ t h. lt-ltb t 64 h ∙ sym (lt-ltb t _ (lt_of_lt_of_le h c.if-n-ge64.true)))

pub returns-else-n-ge64 : goal.returns-else-n-ge64
returns-else-n-ge64 c = rw (shl_one 64 _ c.if-n-ge64.false) (mask_set_of 64 _ (le_of_lt c.if-n-ge64.false))
