-- The places of successor sets, and room for them.
-- Assumes nothing.
use mathlib.Core.Path.{◌≡◌, refl, sym, ◌∙◌}
use mathlib.Core.List.{List}
use Prim.Native.Nat.{ℕ, zero, suc, ◌*◌, ◌/◌, ◌%◌, ◌^◌, ◌≤◌, ◌<◌}
use native.Mathlib.Nat.{mul-le-mul, mul-add-div_right, mul-add-mod_self_right, div-eq_of_lt, mod-eq_of_lt, lt_of_lt_of_le}
use native.Mathlib.Omega.{arith}
use lib.ListN.{length, get_or, replicate, length-replicate}
use Rattle.semiautomata.specs.Successors.{place, set_at, Fit, Blank}
use Rattle.semiautomata.proofs.BySets.{place_lt}

pub place_in : {n m : ℕ} {sets : List ℕ} → Fit n m sets → (q a : ℕ) → q < n → a < m → place m q a < length sets
place_in {n} {m} f q a h g = lt_of_lt_of_le (place_lt n m q a h g) f.room

pub place_fits : {n m : ℕ} {sets : List ℕ} → Fit n m sets → (q a : ℕ) → q < n → a < m → set_at m sets q a < 2 ^ n
place_fits {n} {m} f q a h g = f.below (place m q a) (place_lt n m q a h g)

-- at most 64 states and 32 letters
pub size_le : {n m : ℕ} → n ≤ 64 → m ≤ 32 → n * m ≤ 2048
size_le h g = mul-le-mul h g

pub place_small : {n m : ℕ} → n ≤ 64 → m ≤ 32 → (q a : ℕ) → q < n → a < m → place m q a < 2048
place_small {n} {m} x y q a h g = lt_of_lt_of_le (place_lt n m q a h g) (size_le x y)

module _ (m q a : ℕ) (h : a < m) where
  place_state : place m q a / m ≡ q
  place_state = let p : 0 < m = omega arith in rw (mul-add-div_right p q a, div-eq_of_lt h) (omega arith)

  place_letter : place m q a % m ≡ a
  place_letter = mul-add-mod_self_right q m a ∙ mod-eq_of_lt h

-- a place has one state and one letter
pub place_same : (m q a r b : ℕ) → a < m → b < m → place m q a ≡ place m r b → (q ≡ r) × (a ≡ b)
place_same m q a r b h g e =
    (sym (place_state m q a h) ∙ rw e (place_state m r b g), sym (place_letter m q a h) ∙ rw e (place_letter m r b g))

-- a list of zeros
pub zeros_at : (k i : ℕ) → ◌≡◌ {A = ℕ} (get_or (replicate k 0) i 0) 0
zeros_at zero i = refl
zeros_at (suc k) zero = refl
zeros_at (suc k) (suc i) = zeros_at k i

pub blank : (size : ℕ) → Blank size (replicate size 0)
blank size = record { long = length-replicate {A = ℕ} size 0; zero = zeros_at size }
