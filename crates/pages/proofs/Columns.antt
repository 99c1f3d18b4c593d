-- The columns of a line: what is put into them, and that a line has 41 bytes.
-- Assumes nothing.
use Prim.Native.Nat.{ℕ, ◌+◌, ◌-◌, ◌^◌, min, ◌≤◌, ◌<◌}
use mathlib.Core.Bool.{Bool, true, false, cond}
use mathlib.Core.Path.{◌≡◌, sym, ◌∙◌, ap}
use mathlib.Core.List.{List, [], ◌∷◌, ◌++◌, append_assoc, append-nil}
use native.Mathlib.Omega.{arith}
use lib.Dec.{eqb}
use borrow.Author.Tests.{eq-eqb, ne_eqb}
use lib.ListN.{length, take, drop, replicate, length-append, length-replicate, drop_of_length-le}
use lib.Seq.{append_snoc, drop-drop}
use Rattle.decimals.specs.Decimals.{decimal, blanks, right, left}
use Rattle.decimals.proofs.Digits.{decimal_length}
use Rattle.decimals.proofs.Columns.{drop_row, right_long, left_long}
use Rattle.semiautomata.specs.Sizes.{endless, unmeasured}
use Rattle.slices.specs.Copying.{at_front}
use Rattle.slices.specs.Filling.{filled}
use Rattle.semiautomata.specs.Predictability.{Critical, initial, fork}
use Rattle.pages.specs.Page.{state_text, need_text, longest_bar, bar, label, tail, line, page_line, line_of, shown_of}

-- all columns of a part made blank
pub made : (xs old : List ℕ) {columns : List ℕ} → length old ≡ length xs → columns ≡ at_front xs old → columns ≡ xs
made xs old h e = e ∙ rw (drop_of_length-le old {i = length xs} (omega arith), append-nil)

-- THE BAR: signs put over the front of blank columns

pub bar_put : (count : ℕ) {columns : List ℕ} → columns ≡ bar count ++ drop (min longest_bar count) (blanks longest_bar)
    → columns ≡ left longest_bar (bar count)
unfolding left
bar_put count e = e ∙ go (min longest_bar count) (omega arith)
  where
    go : (c : ℕ) → c ≤ longest_bar → replicate c 35 ++ drop c (blanks longest_bar) ≡ replicate c 35 ++ blanks (longest_bar - length {A = ℕ} (replicate c 35))
    go c h =
        let all : c + (longest_bar - c) ≡ longest_bar = omega arith in
        rw (length-replicate {A = ℕ} c 35) (ap (λ (l : List ℕ). replicate c 35 ++ l) (rw all at (drop_row c (longest_bar - c) 32)))

-- A NEED

pub need_dash : {v : ℕ} → v ≡ endless → right 6 (need_text v) ≡ 32 ∷ 32 ∷ 32 ∷ 32 ∷ 32 ∷ 45 ∷ []
unfolding right
need_dash {v} e = rw (eq-eqb v endless e)

pub need_number : {v : ℕ} → ¬ (v ≡ endless) → right 6 (need_text v) ≡ right 6 (decimal v)
need_number {v} ne = rw (ne_eqb v endless ne)

-- A LINE

either_short : (b : Bool) (v : ℕ) → v < 10 ^ 6 → length (cond b (45 ∷ []) (decimal v)) ≤ 6
either_short true v h = omega arith
either_short false v h = decimal_length 5 v h

pub need_short : (v : ℕ) → v < 10 ^ 6 → length (need_text v) ≤ 6
need_short v = either_short (eqb v endless) v

pub bar_short : (count : ℕ) → length (bar count) ≤ longest_bar
bar_short count = rw length-replicate (omega arith)

pub line_long : (state letter : List ℕ) (v count : ℕ) → length state ≤ 4 → length letter ≤ 4 → length (need_text v) ≤ 6
    → length (line state letter v count) ≡ page_line
unfolding line
line_long state letter v count a b c =
    simp length-append (omega (
      arith,
      right_long 4 state a,
      right_long 4 letter b,
      right_long 6 (need_text v) c,
      left_long longest_bar (bar count) (bar_short count),
    ))

-- the halves of a line, made blank and then put from the right to the left
pub label_put : {b l s : List ℕ} (state letter : List ℕ) → b ≡ blanks 9 → l ≡ letter → s ≡ state
    → s ++ drop 4 (take 5 b ++ (l ++ drop 4 (drop 5 b))) ≡ state ++ blanks 1 ++ letter
label_put state letter b l s = rw (b, l, s, append-nil) (sym (append_snoc state 32 letter))

pub tail_put : {b g n : List ℕ} (need signs : List ℕ) → b ≡ blanks 31 ++ (10 ∷ []) → g ≡ signs → n ≡ need
    → take 1 (take 8 b ++ (g ++ drop 23 (drop 8 b))) ++ (n ++ drop 6 (drop 1 (take 8 b ++ (g ++ drop 23 (drop 8 b)))))
    ≡ blanks 1 ++ need ++ blanks 1 ++ signs ++ (10 ∷ [])
tail_put need signs b g n = rw (b, g, n) (simp append_assoc)

-- what is put of a set: nothing, or its line
pub shown_none : (T : Critical) (v count : ℕ) → v ≡ unmeasured → shown_of T v count ≡ []
shown_none T v count e = rw (eq-eqb v unmeasured e)

pub shown_line : (T : Critical) (v count : ℕ) → ¬ (v ≡ unmeasured) → shown_of T v count ≡ line_of T v count
shown_line T v count ne = rw (ne_eqb v unmeasured ne)

-- the line of the initial states, and that of a fork set, by their halves
pub starts_made : (v count : ℕ) {made columns : List ℕ} → made ≡ 102 ∷ 114 ∷ 111 ∷ 109 ∷ (blanks 36 ++ (10 ∷ [])) → columns ≡ tail v count
    → take 9 made ++ (columns ++ drop (length made - 9) (drop 9 made)) ≡ line_of initial v count
unfolding line right
starts_made v count m e = rw (m, e) (simp append-nil)

pub fork_made : (q a v count : ℕ) {made columns front : List ℕ} → made ≡ blanks 40 ++ (10 ∷ []) → columns ≡ tail v count
    → front ≡ label (decimal q) (decimal a)
    → front ++ drop 9 (take 9 made ++ (columns ++ drop (length made - 9) (drop 9 made))) ≡ line_of (fork q a) v count
unfolding line
fork_made q a v count m e f = rw (m, e, f) (simp append-nil)

pub starts_long : (v count : ℕ) → v < 10 ^ 6 → length (line_of initial v count) ≡ page_line
starts_long v count h = line_long (state_text initial) [] v count (omega arith) (omega arith) (need_short v h)

pub fork_long : (q a v count : ℕ) → q < 64 → a < 32 → v < 10 ^ 6 → length (line_of (fork q a) v count) ≡ page_line
fork_long q a v count g k h =
    line_long (decimal q) (decimal a) v count (decimal_length 3 q (omega arith)) (decimal_length 3 a (omega arith)) (need_short v h)

-- a line that is filled where it stands
pub filled_line : (old : List ℕ) (at : ℕ) {text columns : List ℕ} → length text ≡ page_line → columns ≡ text
    → take at old ++ (columns ++ drop (at + page_line - at) (drop at old)) ≡ filled old at text
unfolding filled
filled_line old at {text} l e =
    let d : at + page_line - at ≡ length text = omega arith in
    rw (e, d, drop-drop (length text) at old) (sym (append_assoc (take at old) text (drop (at + length text) old)))
