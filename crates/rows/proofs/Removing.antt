-- Taking the struck pairs out, row by row, and joining what is left.
-- Assumes nothing.
use mathlib.Core.Bool.{Bool, xor, ◌||◌}
use mathlib.Core.Path.{◌≡◌, refl, ◌∙◌, ap}
use mathlib.Core.List.{List}
use Prim.Native.Nat.{ℕ, ◌+◌, ◌<◌}
use native.Mathlib.Numerals.{add-one}
use native.Mathlib.Omega.{arith}
use lib.Bits.{bit_or, bit_xor}
use lib.ListN.{length, get_or, set, length-set}
use lib.Seq.{get_or-set_same, get_or-set_other}
use borrow.Author.Count.{below_more}
use Rattle.bitset.specs.Sets.{any}
use Rattle.bitset.specs.Numbers.{has}
use Rattle.bitset.proofs.Below.{any_cong}
use Rattle.bitset.proofs.Bits.{has_or, has_xor, has_empty}
use Rattle.rows.specs.Rows.{pair, Without, Union}

pub without_first : {old struck : List ℕ} → Without old struck old 0
without_first = record { long = refl; is = λ s t h. absurd (omega arith); kept = λ s h. refl }

pub union_first : {new : List ℕ} → Union new 0 0
unfolding any
union_first = record { is = λ t. has_empty t }

module _ {new : List ℕ} {s : ℕ} (room : s < length new) where
  pub without_next : {old struck : List ℕ} → Without old struck new s
      → Without old struck (set new s (bit_xor (get_or new s 0) (get_or struck s 0))) (s + 1)
  without_next {old} {struck} k = record {
    long = length-set new s v ∙ k.long;
    is = λ x t. below_more (λ (x : ℕ). pair (set new s v) x t ≡ xor (pair old x t) (pair struck x t)) s
        (λ x h. rw (get_or-set_other new s x v 0 (omega arith)) (k.is x t h))
        (rw (get_or-set_same new s v 0 room, has_xor, k.kept s (omega arith))) x;
    kept = λ x h. get_or-set_other new s x v 0 (omega arith) ∙ k.kept x (omega arith);
  }
    where
      v : ℕ
      v = bit_xor (get_or new s 0) (get_or struck s 0)

  pub union_next : {all : ℕ} (v : ℕ) → Union new all s → Union (set new s v) (bit_or all (get_or (set new s v) s 0)) (s + 1)
  unfolding any
  union_next {all} v k = record {
    is = λ t.
        let kept = any_cong s (λ x. pair new x t) (λ x. pair (set new s v) x t) (λ x h. rw (get_or-set_other new s x v 0 (omega arith))) in
        rw (add-one, has_or, k.is t) (ap (λ (b : Bool). b || has (get_or (set new s v) s 0) t) kept);
  }
