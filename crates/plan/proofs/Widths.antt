-- How many bytes a line has, by its edition: three, or four with a party.
-- Assumes nothing.
use Prim.Native.Nat.{ℕ, ◌*◌, ◌≤◌}
use mathlib.Core.Bool.{Bool, true, false, cond}
use mathlib.Core.Path.{◌≡◌}
use native.Mathlib.Omega.{arith}
use Rattle.plan.specs.Plan.{has_parties}
use Rattle.plan.specs.Bytes.{line_width}

-- what holds of three and of four holds of every width
pub width_cases : (edition : ℕ) (Q : ℕ → Type 0) → Q 4 → Q 3 → Q (line_width edition)
width_cases edition Q q r = go (has_parties edition)
  where
    go : (b : Bool) → Q (cond b 4 3)
    go true = q
    go false = r

-- so many lines have at least three times as many bytes
pub width_over : (edition e : ℕ) → 3 * e ≤ line_width edition * e
width_over edition e = width_cases edition (λ v. 3 * e ≤ v * e) (omega arith) (omega arith)

-- .. and at most four times as many
pub width_times : (edition : ℕ) {w : ℕ} → w ≡ line_width edition → (e : ℕ) → w * e ≤ 4 * e
width_times edition is e = rw is (width_cases edition (λ v. v * e ≤ 4 * e) (omega arith) (omega arith))
