-- Numbers that stand for sets: how many members they have, and what it means to be a member.
-- Assumes nothing.
use Prim.Native.Nat.{ℕ, ◌<◌}
use mathlib.Core.Bool.{Bool, true}
use mathlib.Core.Path.{◌≡◌, ◌∙◌, ap}
use lib.Dec.{ltb}
use lib.Count.{ones}
use borrow.Author.Tests.{lt-ltb}
use Rattle.bitset.specs.Sets.{size}
use Rattle.bitset.specs.Numbers.{has, set_of}
use Rattle.bitset.proofs.Tests.{and_out}
use Rattle.bitset.proofs.Below.{size_cong}
use Rattle.bitset.proofs.Bits.{set_of_lt, has_set_of}
use Rattle.bitset.proofs.Counts.{ones_size}
use Rattle.simulate.specs.Verdicts.{Stands}

module _ (n : ℕ) (p : ℕ → Bool) where
  members : (t : ℕ) → t < n → has (set_of n p) t ≡ p t
  members t h = rw (has_set_of, lt-ltb t n h)

  pub counted : {set : ℕ} → set ≡ set_of n p → ones set ≡ size n p
  counted e = ap ones e ∙ ones_size n _ (set_of_lt n p) ∙ size_cong n _ p members

  -- a set whose test says what P says
  pub stands : {P : ℕ → Type 0} {set : ℕ} → set ≡ set_of n p → ((x : ℕ) → p x ≡ true → P x)
      → ((x : ℕ) → P x → (x < n) × (p x ≡ true)) → Stands n P set
  stands e pass from = record {
    fits = rw e (set_of_lt n p);
    is = λ x. (λ q. pass x (and_out (ltb x n) (p x) (rw (e, has_set_of) at q)).1, λ c. let (h, q) = from x c in rw e (members x h ∙ q));
  }
