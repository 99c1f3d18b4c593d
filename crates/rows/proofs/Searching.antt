-- The search for two different states that are a pair of both rows, a row at a time: `live & rival & mask(high)`.
-- Assumes nothing.
use mathlib.Core.Bool.{true, ◌&&◌, false≢true}
use mathlib.Core.Path.{◌≡◌, sym, ◌∙◌}
use Prim.Native.Nat.{ℕ, ◌^◌, ◌≤◌, ◌<◌}
use native.Mathlib.Nat.{lt_of_le_of_lt}
use native.Mathlib.Omega.{arith}
use lib.Bits.{bit_and, and_le_r}
use lib.Dec.{ltb}
use borrow.Author.Tests.{ltb-true, lt-ltb}
use Rattle.bitset.specs.Numbers.{has, set_of}
use Rattle.bitset.specs.Members.{Taken}
use Rattle.bitset.proofs.Tests.{and_out}
use Rattle.bitset.proofs.Bits.{has_and, has_empty, has_set_of, set_of_lt}
use Rattle.bitset.proofs.Taking.{left_first, next_in}

module _ (a b t k : ℕ) (mask : k ≡ set_of 64 (λ q. ltb q t)) where
  row : (q : ℕ) → has (bit_and (bit_and a b) k) q ≡ ((has a q && has b q) && (ltb q 64 && ltb q t))
  row q = rw (mask, has_and, has_and, has_set_of)

  pub row_none : t ≤ 64 → bit_and (bit_and a b) k ≡ 0 → (q : ℕ) → q < t → has a q ≡ true → ¬ (has b q ≡ true)
  row_none w e q h x y = false≢true (sym (rw e (has_empty q)) ∙ row q ∙ rw (x, y, lt-ltb q 64 (omega arith), lt-ltb q t h))

  pub row_some : {q left : ℕ} → Taken (bit_and (bit_and a b) k) q left → (q < t) × (has a q ≡ true) × (has b q ≡ true)
  row_some {q} w =
      let x = bit_and (bit_and a b) k in
      let small : x < 2 ^ 64 = lt_of_le_of_lt (and_le_r (bit_and a b) k) (rw mask (set_of_lt 64 _)) in
      let (l, r) = and_out (has a q && has b q) _ (sym (row q) ∙ next_in (left_first 64 x (omega arith) small) w) in
      let (x, y) = and_out (has a q) _ l in
      (ltb-true q t (and_out (ltb q 64) _ r).1, x, y)
