-- What the machine counts: a number's ones are its members, its trailing zeros the least of them, and x & (x - 1) is x without it.
-- Assumes nothing.
use mathlib.Core.Bool.{Bool, true, false, cond, not, ◌&&◌}
use mathlib.Core.Path.{◌≡◌, refl, sym, ◌∙◌, ap}
use mathlib.Core.Logic.{inl, inr}
use Prim.Native.Nat.{ℕ, zero, suc, ◌-◌, ◌/◌, ◌^◌, ◌<◌}
use native.Mathlib.Omega.{arith}
use native.Mathlib.Nat.{lt_of_le_of_lt}
use lib.Dec.{lit<, eqb, eqb-zero-suc, eqb-suc-suc}
use lib.Arith.{lt-one}
use lib.Bits.{bit_and, and_le_r}
use lib.Count.{ones, ones_step, count_trailing_zeros, trailing_le, under}
use Rattle.bitset.specs.Sets.{one_if, size, least}
use Rattle.bitset.specs.Numbers.{has}
use Rattle.bitset.proofs.Tests.{decided}
use Rattle.bitset.proofs.Below.{size_low, size_cong, size_without, Sole, sole_size, size_sole, least_sole, Least, least_any}
use Rattle.bitset.proofs.Bits.{has_suc, low, low_is, has_and, has_lt, some_member, and_fits}

-- COUNTS

under_is : (b : Bool) (t : ℕ) → under (one_if b) t ≡ cond b 0 (suc t)
under_is true t = refl
under_is false t = refl

pub trailing_least : (k x : ℕ) → count_trailing_zeros k x ≡ least k (has x)
unfolding count_trailing_zeros least
trailing_least zero x = refl
trailing_least (suc k) x = simp (low x, under_is, trailing_least k (x / 2), has_suc)

-- the least member fits a machine word
pub least_word : (x : ℕ) → count_trailing_zeros 64 x < 2 ^ 64
least_word x = lt_of_le_of_lt (trailing_le 64 x) (lit< tt)

pub ones_size : (k x : ℕ) → x < 2 ^ k → ones x ≡ size k (has x)
unfolding ones size
ones_size zero x h = rw (lt-one h)
ones_size (suc k) x h = simp (ones_step x, low x, size_low, has_suc, ones_size k (x / 2) (omega arith))

-- exactly one member
pub one_sole : (k x : ℕ) → x < 2 ^ k → ones x ≡ 1 → Sole k (has x) (count_trailing_zeros k x)
one_sole k x h e =
    let (s, o) = size_sole k (has x) (sym (ones_size k x h) ∙ e) in
    rw (trailing_least, least_sole k (has x) s o) o

pub sole_one : (k x s : ℕ) → x < 2 ^ k → Sole k (has x) s → ones x ≡ 1
sole_one k x s h o = ones_size k x h ∙ sole_size k (has x) s o

-- the least member, below k
pub trailing_is : (k x : ℕ) → 0 < x → x < 2 ^ k → (count_trailing_zeros k x < k) × Least (has x) (count_trailing_zeros k x)
trailing_is k x p h = rw trailing_least (least_any k (has x) (some_member k x p h))

pub trailing_lt : (k x : ℕ) → 0 < x → x < 2 ^ k → count_trailing_zeros k x < k
trailing_lt k x p h = (trailing_is k x p h).0

pub trailing_member : (k x : ℕ) → 0 < x → x < 2 ^ k → has x (count_trailing_zeros k x) ≡ true
trailing_member k x p h = (trailing_is k x p h).1.member

-- STRIKING THE LEAST

-- one less than x lacks the least member of x, and of the others it has those that x has
pred_has : (k x t : ℕ) → x < 2 ^ k → has x t ≡ true → has (x - 1) t ≡ not (eqb (count_trailing_zeros k x) t)
unfolding count_trailing_zeros
pred_has zero x t h e = absurd (omega (arith, has_lt 0 x t h e))
pred_has (suc k) x zero h e = rw (low x, e) (low_is (x - 1) false (omega (arith, low x, ap one_if e)))
pred_has (suc k) x (suc t) h e = elim (decided (has x 0)) [
  | inl q ↦
      let half : (x - 1) / 2 ≡ x / 2 = omega (arith, low x, ap one_if q) in
      rw (has_suc, half, ← has_suc x t, e, low x, q, eqb-zero-suc)
  | inr q ↦
      let half : (x - 1) / 2 ≡ x / 2 - 1 = omega (arith, low x, ap one_if q) in
      rw (has_suc, half, low x, q, eqb-suc-suc) (pred_has k (x / 2) t (omega arith) (rw (← has_suc x t) e))
]

and_where : (a b c : Bool) → (a ≡ true → b ≡ c) → (a && b) ≡ (a && c)
and_where true b c f = f refl
and_where false b c f = refl

pub has_strike : (k x t : ℕ) → x < 2 ^ k → has (bit_and x (x - 1)) t ≡ (has x t && not (eqb (count_trailing_zeros k x) t))
has_strike k x t h = rw has_and (and_where _ _ _ (pred_has k x t h))

pub strike_less : (x : ℕ) → 0 < x → bit_and x (x - 1) < x
strike_less x p = omega (arith, and_le_r x (x - 1))

pub ones_strike : (k x : ℕ) → 0 < x → x < 2 ^ k → ones x ≡ suc (ones (bit_and x (x - 1)))
ones_strike k x p h =
    let rest : size k (has (bit_and x (x - 1))) ≡ size k (λ t. has x t && not (eqb (count_trailing_zeros k x) t)) =
    size_cong k _ _ (λ t g. has_strike k x t h) in
    rw (ones_size k x h, ones_size k (bit_and x (x - 1)) (and_fits k x (x - 1) h), rest)
    (size_without k (has x) (count_trailing_zeros k x) (trailing_lt k x p h) (trailing_member k x p h))
