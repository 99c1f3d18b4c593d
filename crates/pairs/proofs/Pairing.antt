-- Pairing up set after set.
-- Assumes nothing.
use mathlib.Core.Bool.{or-false, or_assoc}
use mathlib.Core.Path.{◌≡◌}
use mathlib.Core.List.{List}
use Prim.Native.Nat.{ℕ, ◌+◌}
use native.Mathlib.Numerals.{add-one}
use Rattle.bitset.specs.Sets.{any}
use Rattle.bitset.proofs.Bits.{has_empty}
use Rattle.rows.specs.Rows.{Put}
use Rattle.pairs.specs.inner.Rounds.{Paired}

module _ {old : List ℕ} {F G : ℕ → ℕ} where
  pub paired_first : Paired old old F G 0
  unfolding any
  paired_first = record { is = λ s t. rw or-false }

  pub paired_next : {mid new : List ℕ} {i : ℕ} → Put (F i) (G i) mid new → Paired old mid F G i → Paired old new F G (i + 1)
  unfolding any
  paired_next {mid} {new} {i} p k = rw add-one (record { is = λ s t. rw (p.is s t, k.is s t, or_assoc) })

  -- with no firsts there is nothing to pair up
  pub paired_none : {new : List ℕ} {i : ℕ} → F i ≡ 0 → Paired old new F G i → Paired old new F G (i + 1)
  unfolding any
  paired_none e k = rw add-one (record { is = λ s t. rw (k.is s t, e, has_empty, or-false) })
