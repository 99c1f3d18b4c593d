-- A number put into columns, digit by digit from the right.
-- Assumes nothing.
use Prim.Native.Nat.{ℕ, suc, ◌+◌, ◌-◌, ◌/◌, ◌%◌, ◌≤◌, ◌<◌}
use mathlib.Core.Path.{◌≡◌, sym, ◌∙◌, ap}
use mathlib.Core.List.{List, [], ◌∷◌, ◌++◌, append-nil}
use native.Mathlib.Omega.{arith}
use lib.ListN.{length, take, drop, set, replicate, length-append, length-replicate, replicate-append-replicate}
use lib.Seq.{set_at, take-suc, length-take-le, append_snoc, take-length, take_at, drop_at}
use Rattle.decimals.specs.Decimals.{decimal, blanks, right, left, RightAligned}
use Rattle.decimals.proofs.Digits.{leading, leading_some, decimal_last}

-- the last digits of a number stand at the right, from a place on; the others are still to be put, and there are columns for them
pub record Spelled (old : List ℕ) (x : ℕ) (others : List ℕ) (first : ℕ) (columns : List ℕ) : Type 0 where
  pub digits : List ℕ
  pub is : columns ≡ take first old ++ digits
  pub places : first + length digits ≡ length old
  pub whole : decimal x ≡ others ++ digits
  pub room : length others ≤ first

pub spelled_none : {old : List ℕ} {x : ℕ} → length (decimal x) ≤ length old → Spelled old x (decimal x) (length old) old
spelled_none {old} {x} h = record {
  digits = [];
  is = sym (append-nil _ ∙ take-length old);
  places = omega arith;
  whole = sym (append-nil _);
  room = h;
}

set_front : (old : List ℕ) (first : ℕ) (digits : List ℕ) (v : ℕ) → first < length old
    → set (take (suc first) old ++ digits) first v ≡ take first old ++ (v ∷ digits)
set_front old first digits v h =
    rw (take-suc old first 0 h, append_snoc (take first old) _ digits)
    (set_at (take first old) _ digits v first (length-take-le first old (omega arith)))

module _ (rest : ℕ) {old : List ℕ} {x first : ℕ} {columns : List ℕ} (s : Spelled old x (decimal rest) first columns) where
  some_others : suc (length (leading (rest / 10))) ≤ first
  some_others = omega (arith, s.room, ap length (decimal_last rest) ∙ length-append (leading (rest / 10)) _)

  pub spelled_place : 1 ≤ first
  spelled_place = omega (arith, some_others)

  -- the last of the others
  pub spelled_next : {v : ℕ} → v ≡ 48 + rest % 10 → Spelled old x (leading (rest / 10)) (first - 1) (set columns (first - 1) v)
  spelled_next {v} e =
      let f : suc (first - 1) ≡ first = omega (arith, spelled_place) in record {
        digits = v ∷ s.digits;
        is = rw s.is (rw f at (set_front old (first - 1) s.digits v (omega (arith, f, s.places))));
        places = omega (arith, f, s.places);
        whole = s.whole ∙ rw (decimal_last rest, e) (append_snoc (leading (rest / 10)) _ s.digits);
        room = omega (arith, f, some_others);
      }

  -- it is the first digit, or there are others
  pub spelled_last : {v : ℕ} → v ≡ 48 + rest % 10 → rest / 10 ≡ 0 → RightAligned old x (first - 1) (set columns (first - 1) v)
  spelled_last e z = let n = spelled_next e in
      let all : decimal x ≡ n.digits = n.whole ∙ rw z in
      record { first = rw all n.places; is = rw all n.is }

  pub spelled_on : {v : ℕ} → v ≡ 48 + rest % 10 → ¬ (rest / 10 ≡ 0)
      → Spelled old x (decimal (rest / 10)) (first - 1) (set columns (first - 1) v)
  spelled_on e ne = rw (← leading_some ne) (spelled_next e)

-- BLANKS

-- the first and the others of a row of blanks, or of anything
pub take_row : (c d v : ℕ) → take c (replicate (c + d) v) ≡ replicate c v
take_row c d v = rw (← replicate-append-replicate c d v) (take_at (replicate c v) (replicate d v) c (length-replicate c v))

pub drop_row : (c d v : ℕ) → drop c (replicate (c + d) v) ≡ replicate d v
drop_row c d v = rw (← replicate-append-replicate c d v) (drop_at (replicate c v) (replicate d v) c (length-replicate c v))

-- a number in columns that were blank
pub right_blank : (width x : ℕ) {r : ℕ} {columns : List ℕ} → RightAligned (blanks width) x r columns → columns ≡ right width (decimal x)
unfolding right
right_blank width x {r} a =
    let l : r + length (decimal x) ≡ width = a.first ∙ length-replicate width 32 in
    let e : width - length (decimal x) ≡ r = omega arith in
    a.is ∙ rw (e, ← l, take_row r (length (decimal x)) 32)

-- text that is not too long takes all its columns
pub right_long : (width : ℕ) (text : List ℕ) → length text ≤ width → length (right width text) ≡ width
unfolding right
right_long width text h = simp (length-append, length-replicate) (omega arith)

pub left_long : (width : ℕ) (text : List ℕ) → length text ≤ width → length (left width text) ≡ width
unfolding left
left_long width text h = simp (length-append, length-replicate) (omega arith)
