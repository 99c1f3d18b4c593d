-- Sets of states as tests on numbers.
-- Assumes nothing.
use Rattle.std.specs.Prelude.{ℕ, zero, suc, ◌+◌, Bool, true, false, cond, ◌||◌, eqb}

-- some number below n is in p
unfoldable pub any : ℕ → (ℕ → Bool) → Bool
any zero p = false
any (suc n) p = any n p || p n

-- 1 for true and 0 for false
abbrev pub one_if : Bool → ℕ
one_if true = 1
one_if false = 0

-- how many numbers below n are in p
unfoldable pub size : ℕ → (ℕ → Bool) → ℕ
size zero p = 0
size (suc n) p = size n p + one_if (p n)

-- the least number below n that is in p; n if there is none
unfoldable pub least : ℕ → (ℕ → Bool) → ℕ
least zero p = 0
least (suc n) p = cond (p 0) 0 (suc (least n (λ x. p (suc x))))

-- the set of s alone
abbrev pub single : ℕ → ℕ → Bool
single s t = eqb s t
