-- The refusals of preparing and of the count call, from what is asked and the lent lengths.
-- Assumes nothing.
use Prim.Native.Nat.{ℕ, ◌+◌, ◌*◌, ◌≤◌, ◌<◌}
use mathlib.Core.Path.{◌≡◌, sym, ◌∙◌}
use native.Mathlib.Omega.{arith}
use native.Mathlib.Nat.{mul-le-mul_right}
use borrow.Author.Tests.{lt-ltb, le-ltb}
use Rattle.plan.proofs.Asked.{refused_passing, refused_unread}
use Rattle.plan.specs.Asked.{Asked, refusal_of, Passes, Proper}
use Rattle.table.specs.Table.{sets_from}
use Rattle.prepare.specs.Preparing.{count_refusal, prepare_refusal}

-- how large the letters are
pub square : {n : ℕ} → n ≤ 64 → n * n ≤ 4096
square {n} h = omega (arith, mul-le-mul_right n h)

module _ (A : Asked) (P : Proper A) where
  -- where no check applies, by the lent lengths
  module _ (w : Passes A) where
    pub count_short : {size : ℕ} → size < A.means.n * A.means.n → 9 ≡ count_refusal A size
    count_short {size} h = sym (refused_passing A P w _ ∙ rw (lt-ltb size (A.means.n * A.means.n) h))

    pub count_clear : {size : ℕ} → A.means.n * A.means.n ≤ size → count_refusal A size ≡ 0
    count_clear {size} h = refused_passing A P w _ ∙ rw (le-ltb size (A.means.n * A.means.n) h)

    module _ {table : ℕ} (letters : ℕ) where
      pub table_short : table < sets_from + A.means.n * A.means.m → 9 ≡ prepare_refusal A table letters
      table_short h = sym (refused_passing A P w _ ∙ rw (lt-ltb table (sets_from + A.means.n * A.means.m) h))

      pub prepare_clear : sets_from + A.means.n * A.means.m ≤ table → A.means.n * A.means.n ≤ letters
          → prepare_refusal A table letters ≡ 0
      prepare_clear h g =
          refused_passing A P w _ ∙ rw (le-ltb table (sets_from + A.means.n * A.means.m) h, le-ltb letters (A.means.n * A.means.n) g)

  -- with 4,096 letters, what is refused is refused by a check
  pub count_refuses : {r : ℕ} → r ≡ count_refusal A 4096 → ¬ (r ≡ 0) → (r ≡ refusal_of A) × ¬ Passes A
  count_refuses e n =
      let ill : ¬ Passes A = λ w. n (e ∙ count_clear w (square (P.sized w).n_high)) in
      (e ∙ refused_unread A P ill _, ill)
