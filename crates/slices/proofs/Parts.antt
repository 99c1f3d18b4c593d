-- A part of a list, from a place on, that is lent and comes back.
-- Assumes nothing.
use Prim.Native.Nat.{ℕ, ◌+◌, ◌-◌, ◌≤◌}
use mathlib.Core.Path.{◌≡◌, sym, ◌∙◌, ap}
use mathlib.Core.List.{List, [], ◌++◌, append_assoc, append-nil}
use native.Mathlib.Omega.{arith}
use lib.ListN.{length, take, drop, length-drop, drop_of_length-le}
use lib.Seq.{take_all, drop-drop}
use Rattle.slices.specs.Copying.{pasted}

-- up to the end: all of it is lent, and nothing stands behind it when it comes back
pub part_whole : (a n : ℕ) (b : List ℕ) → length b ≤ a + n → take n (drop a b) ≡ drop a b
part_whole a n b h = take_all n (drop a b) (rw length-drop (omega arith))

pub part_back : (a n : ℕ) (b ys : List ℕ) (F : List ℕ → List ℕ) → length b ≤ a + n → ys ≡ F (take n (drop a b))
    → take a b ++ (ys ++ drop n (drop a b)) ≡ take a b ++ F (drop a b)
part_back a n b ys F h e =
    let none : drop n (drop a b) ≡ [] = drop_of_length-le (drop a b) {i = n} (rw length-drop (omega arith)) in
    rw (none, append-nil, e, part_whole a n b h)

-- written over, whole
pub part_pasted : (a w : ℕ) (b ys : List ℕ) → length ys ≡ w → take a b ++ (ys ++ drop w (drop a b)) ≡ pasted b a ys
part_pasted a w b ys e =
    rw (← e) (ap (λ (l : List ℕ). take a b ++ (ys ++ l)) (drop-drop (length ys) a b)
    ∙ sym (append_assoc (take a b) ys (drop (a + length ys) b)))

-- up to a count
pub part_first : (a h g : ℕ) (b : List ℕ) → h ≡ g → take (a + h - a) (drop a b) ≡ take g (drop a b)
part_first a h g b e = let d : a + h - a ≡ g = omega arith in rw d
