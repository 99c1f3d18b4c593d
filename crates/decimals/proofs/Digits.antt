-- The digits of a number, its last one first; and how many there are.
-- Assumes nothing.
use Prim.Native.Nat.{ℕ, zero, suc, ◌+◌, ◌*◌, ◌/◌, ◌%◌, ◌^◌, ◌≤◌, ◌<◌}
use mathlib.Core.Bool.{Bool, true, false, cond}
use mathlib.Core.Path.{◌≡◌, refl}
use mathlib.Core.List.{List, [], ◌∷◌, ◌++◌}
use native.Mathlib.Decide.{dec_lt}
use native.Mathlib.Nat.{pow-succ'}
use native.Mathlib.Omega.{arith}
use lib.Dec.{eqb, ltb}
use lib.ListN.{length, length-append}
use borrow.Author.Tests.{lt-ltb, le-ltb, eq-eqb, ne_eqb}
use Rattle.decimals.specs.Decimals.{digits, decimal}

-- every bound that is enough gives the same digits
digits_same : (c d x : ℕ) → x ≤ c → x ≤ d → digits c x ≡ digits d x
unfolding digits
digits_same zero zero x h g = refl
digits_same zero (suc d) x h g = rw (lt-ltb x 10 (omega arith))
digits_same (suc c) zero x h g = rw (lt-ltb x 10 (omega arith))
digits_same (suc c) (suc d) x h g = elim (dec_lt x 10) [
  | yes l ↦ rw (lt-ltb x 10 l)
  | no l ↦ rw (le-ltb x 10 (omega arith), digits_same c d (x / 10) (omega arith) (omega arith))
]

-- what stands in front of the last digit: the digits of x / 10, none if that is 0
abbrev pub leading : ℕ → List ℕ
leading x = cond (eqb x 0) [] (decimal x)

pub leading_some : {x : ℕ} → ¬ (x ≡ 0) → leading x ≡ decimal x
leading_some {x} ne = rw (ne_eqb x 0 ne)

pub decimal_last : (x : ℕ) → decimal x ≡ leading (x / 10) ++ ((48 + x % 10) ∷ [])
unfolding decimal digits
decimal_last zero = refl
decimal_last (suc y) = elim (dec_lt (suc y) 10) [
  | yes l ↦ rw (lt-ltb (suc y) 10 l, eq-eqb (suc y / 10) 0 (omega arith))
  | no l ↦ rw (
    le-ltb (suc y) 10 (omega arith),
    ne_eqb (suc y / 10) 0 (λ e. omega arith),
    digits_same y (suc y / 10) (suc y / 10) (omega arith) (omega arith),
  )
]

-- a number below 10 ^ c has c digits at most
cond_length : (b : Bool) (l : List ℕ) {n : ℕ} → length l ≤ n → length (cond b [] l) ≤ n
cond_length true l h = omega arith
cond_length false l h = h

digits_length : (c d x : ℕ) → x < 10 ^ suc c → length (digits d x) ≤ suc c
unfolding digits
digits_length c zero x h = omega arith
digits_length zero (suc d) x h = rw (lt-ltb x 10 (omega arith)) (omega arith)
digits_length (suc c) (suc d) x h =
    let less : x < 10 * 10 ^ suc c = rw (← pow-succ' 10 (suc c)) h in
    let front = cond_length (ltb x 10) (digits d (x / 10)) (digits_length c d (x / 10) (omega arith)) in
    simp length-append (omega (arith, front))

pub decimal_length : (c x : ℕ) → x < 10 ^ suc c → length (decimal x) ≤ suc c
unfolding decimal
decimal_length c x h = digits_length c x x h
