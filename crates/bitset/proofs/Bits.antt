-- The members of a number: bit t of it is 1. Laws of `has` and `set_of`, for all numbers and every width.
-- Assumes nothing.
use mathlib.Core.Bool.{Bool, true, false, ◌&&◌, ◌||◌, xor, false≢true}
use mathlib.Core.Path.{◌≡◌, refl, sym, ◌∙◌, ap}
use mathlib.Core.Logic.{inl, inr}
use Prim.Native.Nat.{ℕ, zero, suc, ◌+◌, ◌-◌, ◌*◌, ◌/◌, ◌%◌, ◌^◌, ◌≤◌, ◌<◌, min, max, zero-le, suc-le-suc}
use native.Mathlib.Nat.{div-one, zero-div, one-mul, pow-suc, mod-eq_of_lt, div-eq_of_lt, lt_of_le_of_lt, lt_of_lt_of_le, lt_of_not-le}
use native.Mathlib.Numerals.{one-add}
use native.Mathlib.Omega.{arith}
use lib.Arith.{digits_div}
use lib.Dec.{lit<, eqb, ltb, leb, eqb-zero-suc, eqb-suc-zero, eqb-suc-suc, leb-zero, leb-suc-zero, leb-suc-suc}
use lib.Bits.{bit_and, bit_or, bit_xor, differ, and_step, or_step, xor_step, and_le_l, and_mask, mask_lt}
use lib.Pow.{pow_pos, pow_mono, pow-lt, ones_lt, shr-shr, shr_mono, shl_exact}
use borrow.Author.Tests.{leb-true, leb-false, lt-ltb, le-ltb}
use Rattle.bitset.specs.Sets.{any, one_if, single}
use Rattle.bitset.specs.Numbers.{has, set_of}
use Rattle.bitset.proofs.Tests.{or_none, decided}
use Rattle.bitset.proofs.Below.{any_none, any_not}

-- THE LOWEST DIGIT AND THE REST

pub has_zero : (n : ℕ) → has n 0 ≡ eqb (n % 2) 1
unfolding has
has_zero n = rw div-one

pub has_suc : (n t : ℕ) → has n (suc t) ≡ has (n / 2) t
unfolding has
has_suc n t = rw (← one-add t, ← shr-shr n 1 t)

-- the lowest digit is 1 exactly if 0 is a member
pub low : (n : ℕ) → n % 2 ≡ one_if (has n 0)
low n = rw has_zero (digit (n % 2) (omega arith))
  where
    digit : (d : ℕ) → d < 2 → d ≡ one_if (eqb d 1)
    digit zero h = refl
    digit (suc zero) h = refl
    digit (suc (suc d)) h = absurd (omega arith)

pub low_is : (n : ℕ) (b : Bool) → n % 2 ≡ one_if b → has n 0 ≡ b
low_is n true e = rw (has_zero, e)
low_is n false e = rw (has_zero, e)

bit : (b : Bool) → one_if b < 2
bit true = omega arith
bit false = omega arith

-- WHAT THE OPERATORS MAKE

-- what an operator does to each digit it does to each member
module _ (op d : ℕ → ℕ → ℕ) (f : Bool → Bool → Bool) (step : (a b : ℕ) → op a b ≡ op (a / 2) (b / 2) * 2 + d (a % 2) (b % 2))
    (ff : d 0 0 ≡ one_if (f false false)) (ft : d 0 1 ≡ one_if (f false true)) (tf : d 1 0 ≡ one_if (f true false))
    (tt : d 1 1 ≡ one_if (f true true)) where
  digits : (x y : Bool) → d (one_if x) (one_if y) ≡ one_if (f x y)
  digits false false = ff
  digits false true = ft
  digits true false = tf
  digits true true = tt

  split : (a b : ℕ) → op a b ≡ op (a / 2) (b / 2) * 2 + one_if (f (has a 0) (has b 0))
  split a b = rw (← digits (has a 0) (has b 0), ← low a, ← low b) (step a b)

  has_op : (a b t : ℕ) → has (op a b) t ≡ f (has a t) (has b t)
  has_op a b zero = low_is (op a b) (f (has a 0) (has b 0)) (omega (arith, split a b, bit (f (has a 0) (has b 0))))
  has_op a b (suc t) =
      let half : op a b / 2 ≡ op (a / 2) (b / 2) = omega (arith, split a b, bit (f (has a 0) (has b 0))) in
      rw (has_suc (op a b) t, half, has_suc a t, has_suc b t) (has_op (a / 2) (b / 2) t)

pub has_or : (a b t : ℕ) → has (bit_or a b) t ≡ (has a t || has b t)
has_or = has_op bit_or max ◌||◌ or_step refl refl refl refl

pub has_and : (a b t : ℕ) → has (bit_and a b) t ≡ (has a t && has b t)
has_and = has_op bit_and min ◌&&◌ and_step refl refl refl refl

pub has_xor : (a b t : ℕ) → has (bit_xor a b) t ≡ xor (has a t) (has b t)
unfolding xor
has_xor = has_op bit_xor differ xor xor_step refl refl refl refl

pub has_empty : (t : ℕ) → has 0 t ≡ false
unfolding has
has_empty t = rw zero-div

pub has_pow : (s t : ℕ) → has (2 ^ s) t ≡ eqb s t
has_pow zero zero = has_zero 1
has_pow zero (suc t) = rw (has_suc, has_empty, eqb-zero-suc)
has_pow (suc s) zero = rw eqb-suc-zero (low_is (2 ^ suc s) false (omega arith))
has_pow (suc s) (suc t) =
    let half : 2 ^ suc s / 2 ≡ 2 ^ s = omega arith in
    rw (has_suc, half, eqb-suc-suc) (has_pow s t)

-- the members of 2 ^ n - 1 are the numbers below n
pub has_mask : (n t : ℕ) → has (2 ^ n - 1) t ≡ ltb t n
has_mask zero t = rw (has_empty, leb-suc-zero)
has_mask (suc n) zero = rw (leb-suc-suc, leb-zero) (low_is (2 ^ suc n - 1) true (omega (arith, pow_pos n)))
has_mask (suc n) (suc t) =
    let half : (2 ^ suc n - 1) / 2 ≡ 2 ^ n - 1 = omega (arith, pow_pos n) in
    rw (has_suc, half, leb-suc-suc) (has_mask n t)

-- HOW FAR THE MEMBERS GO

-- numbers below 2 ^ k with the same members below k are equal
pub same_below : (k a b : ℕ) → a < 2 ^ k → b < 2 ^ k → ((t : ℕ) → t < k → has a t ≡ has b t) → a ≡ b
same_below zero a b x y f = omega arith
same_below (suc k) a b x y f =
    let high = same_below k (a / 2) (b / 2) (omega arith) (omega arith)
    (λ t h. rw (← has_suc a t, ← has_suc b t) (f (suc t) (suc-le-suc h))) in
    omega (arith, low a, low b, ap one_if (f 0 (omega arith)), high)

below_pow : (n : ℕ) → n < 2 ^ n
below_pow zero = omega arith
below_pow (suc n) = omega (arith, below_pow n)

pub same_members : (a b : ℕ) → ((t : ℕ) → has a t ≡ has b t) → a ≡ b
same_members a b f = let h = below_pow (a + b) in same_below (a + b) a b (omega arith) (omega arith) (λ t g. f t)

pub none_empty : (n : ℕ) → ((t : ℕ) → has n t ≡ false) → n ≡ 0
none_empty n f = same_members n 0 (λ t. rw has_empty (f t))

-- where a union is empty, so are both
pub or_empty : (a b : ℕ) → bit_or a b ≡ 0 → (a ≡ 0) × (b ≡ 0)
or_empty a b e = (none_empty a (λ t. (none t).0), none_empty b (λ t. (none t).1))
  where
    none : (t : ℕ) → (has a t ≡ false) × (has b t ≡ false)
    none t = or_none _ _ (sym (has_or a b t) ∙ rw e (has_empty t))

pub has_high : (k n t : ℕ) → n < 2 ^ k → k ≤ t → has n t ≡ false
unfolding has
has_high k n t h l = rw (div-eq_of_lt (lt_of_lt_of_le h (pow_mono l)))

pub has_lt : (k n t : ℕ) → n < 2 ^ k → has n t ≡ true → t < k
has_lt k n t h e = lt_of_not-le (λ l. false≢true (sym (has_high k n t h l) ∙ e))

pub fits : (k n : ℕ) → ((t : ℕ) → k ≤ t → has n t ≡ false) → n < 2 ^ k
fits zero n f = omega (arith, none_empty n (λ t. f t zero-le))
fits (suc k) n f = omega (arith, fits k (n / 2) (λ t h. rw (← has_suc n t) (f (suc t) (suc-le-suc h))))

pub some_member : (k n : ℕ) → 0 < n → n < 2 ^ k → any k (has n) ≡ true
some_member k n p h = elim (decided (any k (has n))) [
  | inl e ↦ e
  | inr e ↦ absurd (omega (arith, same_below k n 0 h (pow_pos k) (λ t g. rw has_empty (any_not k (has n) e t g))))
]

pub member_pos : (n t : ℕ) → has n t ≡ true → 0 < n
member_pos zero t e = absurd (false≢true (rw has_empty at e))
member_pos (suc n) t e = omega arith

-- THE NUMBER OF A TEST

-- the lowest digit and the rest
set_of_low : (n : ℕ) (p : ℕ → Bool) → set_of (suc n) p ≡ one_if (p 0) + 2 * set_of n (λ t. p (suc t))
unfolding set_of
set_of_low zero p = omega arith
set_of_low (suc n) p = rw pow-suc (omega (arith, set_of_low n p))

pub set_of_lt : (n : ℕ) (p : ℕ → Bool) → set_of n p < 2 ^ n
unfolding set_of
set_of_lt zero p = omega arith
set_of_lt (suc n) p = omega (arith, set_of_low n p, set_of_lt n (λ t. p (suc t)), bit (p 0))

pub has_set_of : (n : ℕ) (p : ℕ → Bool) (t : ℕ) → has (set_of n p) t ≡ (ltb t n && p t)
unfolding set_of
has_set_of zero p t = rw leb-suc-zero (has_empty t)
has_set_of (suc n) p zero = rw (leb-suc-suc, leb-zero) (low_is (set_of (suc n) p) (p 0) (omega (arith, set_of_low n p, bit (p 0))))
has_set_of (suc n) p (suc t) =
    let half : set_of (suc n) p / 2 ≡ set_of n (λ t. p (suc t)) = omega (arith, set_of_low n p, bit (p 0)) in
    rw (has_suc, half, leb-suc-suc) (has_set_of n (λ t. p (suc t)) t)

-- a number below 2 ^ n with those members is that set
pub is_set_of : (n : ℕ) (p : ℕ → Bool) (r : ℕ) → r < 2 ^ n → ((t : ℕ) → t < n → has r t ≡ p t) → r ≡ set_of n p
is_set_of n p r h f = same_below n r (set_of n p) h (set_of_lt n p) (λ t g. rw (has_set_of, lt-ltb t n) (f t g))

pub set_of_cong : (n : ℕ) (p q : ℕ → Bool) → ((t : ℕ) → t < n → p t ≡ q t) → set_of n p ≡ set_of n q
set_of_cong n p q f = is_set_of n q (set_of n p) (set_of_lt n p) (λ t g. rw (has_set_of, lt-ltb t n) (f t g))

pub set_of_has : (n x : ℕ) → x < 2 ^ n → set_of n (has x) ≡ x
set_of_has n x h = sym (is_set_of n (has x) x h (λ t g. refl))

pub pow_set_of : (k s : ℕ) → s < k → 2 ^ s ≡ set_of k (single s)
pow_set_of k s h = is_set_of k (single s) (2 ^ s) (pow-lt h) (λ t g. has_pow s t)

pub mask_set_of : (k n : ℕ) → n ≤ k → 2 ^ n - 1 ≡ set_of k (λ t. ltb t n)
mask_set_of k n h = is_set_of k (λ t. ltb t n) (2 ^ n - 1) (lt_of_lt_of_le (ones_lt n) (pow_mono h)) (λ t g. has_mask n t)

-- WHAT CODE WRITES

-- `1 << s` in a word of k bits
pub shl_one : (k s : ℕ) → s < k → (1 * 2 ^ s) % 2 ^ k ≡ 2 ^ s
shl_one k s h = shl_exact {a = 1} 1 s k (lit< tt) (omega arith) ∙ one-mul (2 ^ s)

pub has_shl : (k s t : ℕ) → s < k → has ((1 * 2 ^ s) % 2 ^ k) t ≡ eqb s t
has_shl k s t h = rw shl_one (has_pow s t)

-- `n | 1 << s`
pub has_insert : (k n s t : ℕ) → s < k → has (bit_or n ((1 * 2 ^ s) % 2 ^ k)) t ≡ (has n t || eqb s t)
has_insert k n s t h = rw (has_or, has_shl)

-- `(n >> s) & 1 == 1`
pub has_test : (n s : ℕ) → eqb (bit_and (n / 2 ^ s) 1) 1 ≡ has n s
unfolding has
has_test n s = rw (and_mask (n / 2 ^ s) 1)

-- `x & mask == x`
pub and_mask_fits : (n x : ℕ) → bit_and x (2 ^ n - 1) ≡ x → x < 2 ^ n
and_mask_fits n x e = omega (arith, mask_lt x n)

pub fits_and_mask : (n x : ℕ) → x < 2 ^ n → bit_and x (2 ^ n - 1) ≡ x
fits_and_mask n x h = and_mask x n ∙ mod-eq_of_lt h

-- beside `or_lt` of lib.Bits: a & b stays below 2 ^ k where a does
pub and_fits : (k a b : ℕ) → a < 2 ^ k → bit_and a b < 2 ^ k
and_fits k a b h = lt_of_le_of_lt (and_le_l a b) h

-- `a >> j > 1`: a has a bit above j
pub above_shift : (j a : ℕ) → ltb 1 (a / 2 ^ j) ≡ leb (2 ^ suc j) a
above_shift j a = elim (decided (leb (2 ^ suc j) a)) [ inl e ↦ lt-ltb 1 _ (some e) ∙ sym e | inr e ↦ le-ltb 1 _ (none e) ∙ sym e ]
  where
    some : leb (2 ^ suc j) a ≡ true → 1 < a / 2 ^ j
    some e =
        let two : (2 * 2 ^ j + 0) / 2 ^ j ≡ 2 = digits_div 2 (pow_pos j) in
        let h : 2 * 2 ^ j + 0 ≤ a = omega (arith, leb-true (2 ^ suc j) a e) in
        omega (arith, two, shr_mono j h)

    none : leb (2 ^ suc j) a ≡ false → a / 2 ^ j ≤ 1
    none e =
        let one : (1 * 2 ^ j + (2 ^ j - 1)) / 2 ^ j ≡ 1 = digits_div 1 (omega (arith, pow_pos j)) in
        let h : a ≤ 1 * 2 ^ j + (2 ^ j - 1) = omega (arith, leb-false (2 ^ suc j) a e) in
        omega (arith, one, shr_mono j h)

-- `a & b == 0`
pub meets_none : (n a b : ℕ) → bit_and a b ≡ 0 → any n (λ t. has a t && has b t) ≡ false
meets_none n a b e = any_none n (λ t. has a t && has b t) (λ t h. rw (← has_and a b t, e) (has_empty t))

pub meets_some : (n a b : ℕ) → a < 2 ^ n → ¬ (bit_and a b ≡ 0) → any n (λ t. has a t && has b t) ≡ true
meets_some n a b h ne = simp (← has_and) (some_member n (bit_and a b) (omega (arith, ne)) (and_fits n a b h))
