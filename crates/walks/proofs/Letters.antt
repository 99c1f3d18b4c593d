-- Words whose letters are below m: the test of it, and parts of such words.
-- Assumes nothing.
use Prim.Native.Nat.{ℕ, ◌+◌, ◌<◌}
use mathlib.Core.Bool.{true, false, true≢false}
use mathlib.Core.Path.{◌≡◌, sym, ◌∙◌}
use mathlib.Core.List.{List}
use native.Mathlib.Omega.{arith}
use lib.Dec.{leb}
use lib.ListN.{length, get_or, take, drop, length-take, length-drop}
use lib.Seq.{get_or-take, get_or-drop}
use borrow.Author.Tests.{leb-false, lt-leb}
use Rattle.bitset.proofs.Below.{any_not, any_none}
use Rattle.walks.specs.Walking.{letter_off, Letters}

module _ (m : ℕ) (w : List ℕ) where
  pub letters_below : letter_off m w ≡ false → Letters m w
  letters_below e = record { below = λ i h. leb-false m (get_or w i 0) (any_not (length w) (λ i. leb m (get_or w i 0)) e i h) }

  pub letters_stray : letter_off m w ≡ true → ¬ Letters m w
  letters_stray e l = true≢false (sym e ∙ any_none (length w) (λ i. leb m (get_or w i 0)) (λ i h. lt-leb m (get_or w i 0) (l.below i h)))

-- of a part of a word
pub letters_take : {m : ℕ} {w : List ℕ} (i : ℕ) → Letters m w → Letters m (take i w)
letters_take {m} {w} i l =
    record {
      below = λ j h. let g = rw length-take at h in let s : j < i = omega arith in
          rw (get_or-take i w j 0 s) (l.below j (omega arith));
    }

pub letters_drop : {m : ℕ} {w : List ℕ} (i : ℕ) → Letters m w → Letters m (drop i w)
letters_drop {m} {w} i l = record { below = λ j h. let g = rw length-drop at h in rw (get_or-drop i w j 0) (l.below (i + j) (omega arith)) }
