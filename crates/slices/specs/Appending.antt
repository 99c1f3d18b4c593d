-- Lists put one after the other, and written so into a lent buffer.
-- Assumes nothing.
use Rattle.std.specs.Prelude.{ℕ, zero, suc, ◌+◌, ◌≤◌, Bool, cond, ◌≡◌, List, [], ◌++◌, length}
use Rattle.slices.specs.Copying.{pasted}

-- What f gives for each number below n, ascending.
unfoldable pub each : {A : Type 0} → ℕ → (ℕ → List A) → List A
each zero f = []
each (suc n) f = each n f ++ f n

-- .. for each number below n that is in p.
abbrev pub passing : {A : Type 0} → ℕ → (ℕ → Bool) → (ℕ → List A) → List A
passing n p f = each n (λ x. cond (p x) (f x) [])

-- There is room for bytes from a place on.
pub record Room (old : List ℕ) (at : ℕ) (bytes : List ℕ) : Type 0 where
  pub fits : at + length bytes ≤ length old

-- Bytes are written so, and r is the place behind them.
pub record Appended (old : List ℕ) (at : ℕ) (bytes : List ℕ) (r : ℕ) (out : List ℕ) : Type 0 where
  pub room : Room old at bytes
  pub end : r ≡ at + length bytes
  pub is : out ≡ pasted old at bytes
