-- Lines of 41 bytes, of which some are left out: how long they are together, and where each stands.
-- Assumes nothing.
use Prim.Native.Nat.{ℕ, zero, suc, ◌+◌, ◌-◌, ◌*◌, ◌≤◌, ◌<◌}
use mathlib.Core.Bool.{Bool, true, false, cond, not}
use mathlib.Core.Path.{◌≡◌, refl, ◌∙◌}
use mathlib.Core.Logic.{inl, inr}
use mathlib.Core.List.{List, [], ◌++◌, append_assoc, append-nil}
use native.Mathlib.Decide.{ℕ_discrete}
use native.Mathlib.Omega.{arith}
use lib.ListN.{length, get_or, take, drop, length-append}
use lib.Seq.{take_at, drop_at, take-length}
use Rattle.std.specs.List.{count_by}
use Rattle.std.proofs.lemmas.List.Sums.{count_by_more_no, count_by_more_yes}
use Rattle.bitset.specs.Sets.{size}
use Rattle.bitset.proofs.Tests.{decided}
use Rattle.slices.specs.Appending.{each}
use Rattle.slices.proofs.Each.{each_add}
use Rattle.pages.specs.Page.{page_line}

-- COUNTING

size_with : (n : ℕ) (p : ℕ → Bool) → p n ≡ true → size (suc n) p ≡ size n p + 1
unfolding size
size_with n p e = rw e

size_without : (n : ℕ) (p : ℕ → Bool) → p n ≡ false → size (suc n) p ≡ size n p
unfolding size
size_without n p e = rw e (omega arith)

-- .. in a list
size_take : (p : ℕ → Bool) (xs : List ℕ) (i : ℕ) → i ≤ length xs → count_by p (take i xs) ≡ size i (λ j. p (get_or xs j 0))
unfolding size
size_take p xs zero h = refl
size_take p xs (suc i) h =
    let before = size_take p xs i (omega arith) in
    let next : suc i ≡ i + 1 = omega arith in
    elim (decided (p (get_or xs i 0))) [
      | inl e ↦ rw (next, e) (count_by_more_yes p xs i 0 (omega arith) e ∙ rw before)
      | inr e ↦ rw (next, e) (count_by_more_no p xs i 0 (omega arith) e ∙ rw before (omega arith))
    ]

pub size_list : (p : ℕ → Bool) (xs : List ℕ) → count_by p xs ≡ size (length xs) (λ j. p (get_or xs j 0))
size_list p xs = rw take-length at (size_take p xs (length xs) (omega arith))

-- of those in p, one has just k before it
pub size_reach : (n : ℕ) (p : ℕ → Bool) (k : ℕ) → k < size n p → (i : ℕ) × (i < n) × (p i ≡ true) × (size i p ≡ k)
unfolding size
size_reach zero p k h = absurd (omega arith)
size_reach (suc n) p k h = elim (decided (p n)) [
  | inl e ↦ elim (ℕ_discrete (size n p) k) [
    | yes z ↦ (n, omega arith, e, z)
    | no z ↦ let (i, l, e', is) = size_reach n p k (omega (arith, size_with n p e)) in (i, omega arith, e', is)
  ]
  | inr e ↦ let (i, l, e', is) = size_reach n p k (omega (arith, size_without n p e)) in (i, omega arith, e', is)
]

pub size_mono : (p : ℕ → Bool) (i d : ℕ) → size i p ≤ size (d + i) p
unfolding size
size_mono p i zero = let e : zero + i ≡ i = omega arith in rw e (omega arith)
size_mono p i (suc d) = let e : suc d + i ≡ suc (d + i) = omega arith in rw e (omega (arith, size_mono p i d))

pub size_most : (n : ℕ) (p : ℕ → Bool) → size n p ≤ n
unfolding size
size_most zero p = omega arith
size_most (suc n) p = elim (decided (p n)) [ inl e ↦ rw e (omega (arith, size_most n p)) | inr e ↦ rw e (omega (arith, size_most n p)) ]

-- LINES

module _ (none : ℕ → Bool) (f : ℕ → List ℕ) where
  abbrev rows : ℕ → List ℕ
  rows i = cond (none i) [] (f i)

  abbrev some : ℕ → Bool
  some i = not (none i)

  module _ (n : ℕ) (long : (i : ℕ) → i < n → none i ≡ false → length (f i) ≡ page_line) where
    rows_long : (i : ℕ) → i ≤ n → length (each i rows) ≡ page_line * size i some
    unfolding each size
    rows_long zero h = refl
    rows_long (suc i) h = elim (decided (none i)) [
      | inl e ↦ rw (e, append-nil) (omega (arith, rows_long i (omega arith)))
      | inr e ↦ rw (e, length-append) (omega (arith, rows_long i (omega arith), long i (omega arith) e))
    ]

    -- where there is a line, it stands behind those before it
    pub row_at : (i : ℕ) → i < n → none i ≡ false → take page_line (drop (page_line * size i some) (each n rows)) ≡ f i
    unfolding each
    row_at i h e =
        let later = each (n - suc i) (λ y. rows (suc i + y)) in
        let all : suc i + (n - suc i) ≡ n = omega arith in
        let split : each n rows ≡ each i rows ++ (f i ++ later) =
        (rw all at (each_add (suc i) (n - suc i) rows)) ∙ rw e (append_assoc (each i rows) (f i) later) in
        rw (split, drop_at (each i rows) (f i ++ later) (page_line * size i some) (rows_long i (omega arith)))
        (take_at (f i) later page_line (long i h e))

    pub all_long : length (each n rows) ≡ page_line * size n some
    all_long = rows_long n (omega arith)
