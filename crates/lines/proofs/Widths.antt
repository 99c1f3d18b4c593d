-- How long the lines are at the most.
-- Assumes nothing.
use Prim.Native.Nat.{ℕ, zero, suc, ◌+◌, ◌*◌, ◌^◌, ◌≤◌, ◌<◌}
use mathlib.Core.Bool.{Bool, true, false, cond}
use mathlib.Core.List.{List, []}
use native.Mathlib.Omega.{arith}
use lib.ListN.{length, length-append}
use Rattle.std.specs.Prelude.{Option, None, Some}
use Rattle.bitset.specs.Numbers.{has}
use Rattle.refusals.specs.declared.Group.{Group}
use Rattle.refusals.specs.declared.Group.TheVariants.{Author, Caller, Logger}
use Rattle.refusals.specs.Groups.{group_of}
use Rattle.slices.specs.Appending.{each}
use Rattle.lines.specs.Lines.{stakes, codes, starts, lines, look_ahead, at_word, stake, open_word, space, refused_word, group_word, field}
use Rattle.lines.specs.Lines.{counts_line, lookahead_line, refused_line, resolution_line, listed, open_line}
use Rattle.decimals.proofs.Digits.{decimal_length}

field_width : (word : List ℕ) (c x : ℕ) → x < 10 ^ suc c → length (field word x) ≤ length word + suc c
unfolding field
field_width word c x h = rw length-append (omega (arith, decimal_length c x h))

group_width : (g : Option Group) → length (group_word g) ≤ 7
group_width (Some Author) = omega arith
group_width (Some Caller) = omega arith
group_width (Some Logger) = omega arith
group_width None = omega arith

pub counts_width : (n m p e : ℕ) → n < 2 ^ 16 → m < 2 ^ 16 → p < 2 ^ 16 → e < 2 ^ 16 → length (counts_line n m p e) ≤ 50
unfolding counts_line
counts_width n m p e a b c d =
    simp length-append (omega (
      arith,
      field_width stakes 4 n (omega arith),
      field_width codes 4 m (omega arith),
      field_width starts 4 p
          (omega arith),
      field_width lines 4 e (omega arith),
    ))

pub lookahead_width : (k : ℕ) → k < 2 ^ 64 → length (lookahead_line k) ≤ 32
unfolding lookahead_line
lookahead_width k h = simp length-append (omega (arith, field_width look_ahead 19 k (omega arith)))

pub refused_width : (number : ℕ) → number < 2 ^ 8 → length (refused_line number) ≤ 19
unfolding refused_line
refused_width number h = simp length-append (omega (arith, field_width refused_word 2 number (omega arith), group_width (group_of number)))

pub resolution_width : (position state : ℕ) → position < 2 ^ 32 → state < 2 ^ 8 → length (resolution_line position state) ≤ 24
unfolding resolution_line
resolution_width position state a b =
    simp length-append (omega (arith, field_width at_word 9 position (omega arith), field_width stake 2 state (omega arith)))

member_width : (b : Bool) (s : ℕ) → s < 100 → length (cond b (field space s) []) ≤ 3
member_width true s h = omega (arith, field_width space 1 s (omega arith))
member_width false s h = omega arith

listed_width : (n : ℕ) (p : ℕ → Bool) → n ≤ 100 → length (listed n p) ≤ 3 * n
unfolding each
listed_width zero p h = omega arith
listed_width (suc n) p h = rw length-append (omega (arith, listed_width n p (omega arith), member_width (p n) n (omega arith)))

pub open_width_lem : (position set : ℕ) → position < 2 ^ 64 → length (open_line position set) ≤ 225
unfolding open_line
open_width_lem position set h =
    simp length-append (omega (arith, field_width open_word 19 position (omega arith), listed_width 64 (has set) (omega arith)))

pub ruleset widths = (counts_width, lookahead_width, refused_width, resolution_width, open_width_lem)
