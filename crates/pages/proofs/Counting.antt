-- The page as a line after the other: how many there are, where each stands, and that each has 41 bytes.
-- Assumes nothing.
use Prim.Native.Nat.{ℕ, zero, suc, ◌+◌, ◌*◌, ◌/◌, ◌%◌, ◌^◌, ◌≤◌, ◌<◌}
use mathlib.Core.Bool.{false, cond}
use mathlib.Core.Path.{◌≡◌, refl, sym, ◌∙◌, ap, ap₂}
use mathlib.Core.List.{List, [], ◌++◌}
use native.Mathlib.Decide.{ℕ_discrete}
use native.Mathlib.Numerals.{add-one}
use native.Mathlib.Omega.{arith}
use lib.Dec.{eqb}
use lib.ListN.{length, get_or, take, drop}
use borrow.Author.Tests.{ne_eqb, eqb-false}
use Rattle.bitset.specs.Sets.{size}
use Rattle.slices.specs.Appending.{each}
use Rattle.slices.proofs.Each.{each_cong, each_add, each_rows}
use Rattle.decimals.proofs.Digits.{decimal_length}
use Rattle.semiautomata.specs.Semiautomaton.{Semiautomaton, Within}
use Rattle.semiautomata.specs.Predictability.{Critical, initial, fork}
use Rattle.semiautomata.specs.Sizes.{max_states, max_letters, endless, unmeasured}
use Rattle.semiautomata.specs.Successors.{place}
use Rattle.semiautomata.proofs.BySets.{state_lt, letter_lt, place_of_lem, place_lt}
use Rattle.semiautomata.proofs.Places.{place_same}
use Rattle.needs.specs.Needs.{Of, place_of, entries, TellsNeeds}
use Rattle.needs.proofs.Largest.{place_of_lt}
use Rattle.needs.proofs.Theorems.{bound, most}
use Rattle.pages.specs.Page.{state_text, letter_text, need_text, line_of, states_of, text_of, page, lines_before, page_line}
use Rattle.pages.proofs.Columns.{need_short, line_long}
use Rattle.pages.proofs.Rows.{row_at, all_long}

pub lines_next_with : (numbers : List ℕ) (i : ℕ) → ¬ (get_or numbers i 0 ≡ unmeasured) → lines_before numbers (i + 1) ≡ lines_before numbers i + 1
unfolding size
lines_next_with numbers i ne = rw (add-one, ne_eqb (get_or numbers i 0) unmeasured ne)

-- THE SET AT A PLACE

abbrev at_place : Semiautomaton → ℕ → Critical
at_place S zero = initial
at_place S (suc j) = fork (j / S.m) (j % S.m)

place_set : (S : Semiautomaton) (i : ℕ) → i < entries S → Of S (at_place S i) × (place_of S (at_place S i) ≡ i)
place_set S zero h = (tt, refl)
place_set S (suc j) h =
    let g : j < S.n * S.m = omega arith in (
      (state_lt S.n S.m j g, letter_lt S.n S.m j g),
      let e = place_of_lem S.n S.m j g in omega (arith, e),
    )

set_place : (S : Semiautomaton) (T : Critical) → Of S T → at_place S (place_of S T) ≡ T
set_place S initial _ = refl
set_place S (fork q a) (h, g) =
    let e : place S.m q a + 1 ≡ suc (place S.m q a) = omega arith in
    let l = place_lt S.n S.m q a h g in
    let (x, y) = place_same S.m (place S.m q a / S.m) (place S.m q a % S.m) q a (letter_lt S.n S.m _ l) g
    (place_of_lem S.n S.m (place S.m q a) l) in
    rw e (ap₂ fork x y)

-- what is made for the initial states and then state by state and letter by letter is made place by place
flat : (S : Semiautomaton) (E : Critical → List ℕ)
    → E initial ++ each S.n (λ q. each S.m (λ a. E (fork q a))) ≡ each (entries S) (λ i. E (at_place S i))
unfolding each
flat S E =
    let later : each S.n (λ q. each S.m (λ a. E (fork q a))) ≡ each (S.n * S.m) (λ j. E (at_place S (1 + j))) =
    sym (each_rows S.n S.m (λ j. E (at_place S (1 + j)))
    ∙ each_cong S.n _ _ (λ q h. each_cong S.m _ _ (λ a g.
    let e : 1 + place S.m q a ≡ place_of S (fork q a) = omega arith in
    ap E (rw e (set_place S (fork q a) (h, g)))))) in
    let count : entries S ≡ 1 + S.n * S.m = omega arith in
    rw (count, later) (sym (each_add 1 (S.n * S.m) (λ i. E (at_place S i))))

module _ {S : Semiautomaton} (W : Within S) (few : S.n ≤ max_states) (letters : S.m ≤ max_letters) {numbers : List ℕ}
    (t : TellsNeeds S numbers) where
  -- every text of a line is short enough for its columns
  small : (T : Critical) → Of S T → ¬ (get_or numbers (place_of S T) 0 ≡ unmeasured) → get_or numbers (place_of S T) 0 < 10 ^ 6
  small T o ne = elim (ℕ_discrete (get_or numbers (place_of S T) 0) endless) [
    | yes e ↦ omega (arith, e)
    | no x ↦ omega (arith, bound W few t (place_of S T) (rw t.long (place_of_lt S T o)) ne x, most W few t)
  ]

  state_short : (T : Critical) → Of S T → length (state_text T) ≤ 4
  state_short initial _ = omega arith
  state_short (fork q a) (h, g) = decimal_length 3 q (omega (arith, h, few))

  letter_short : (T : Critical) → Of S T → length (letter_text T) ≤ 4
  letter_short initial _ = omega arith
  letter_short (fork q a) (h, g) = decimal_length 3 a (omega (arith, g, letters))

  pub texts_short : (T : Critical) → Of S T → ¬ (get_or numbers (place_of S T) 0 ≡ unmeasured)
      → (length (state_text T) ≤ 4) × (length (letter_text T) ≤ 4) × (length (need_text (get_or numbers (place_of S T) 0)) ≤ 6)
  texts_short T o ne = (state_short T o, letter_short T o, need_short _ (small T o ne))

  pub line_41 : (T : Critical) → Of S T → ¬ (get_or numbers (place_of S T) 0 ≡ unmeasured)
      → length (line_of T (get_or numbers (place_of S T) 0) (states_of S T)) ≡ page_line
  line_41 T o ne = let (s, l, n) = texts_short T o ne in line_long _ _ _ _ s l n

  -- the set at a place has its number there
  number_at : (i : ℕ) → i < entries S → get_or numbers (place_of S (at_place S i)) 0 ≡ get_or numbers i 0
  number_at i h = ap (λ (x : ℕ). get_or numbers x 0) (place_set S i h).1

  abbrev text_at : ℕ → List ℕ
  text_at i = line_of (at_place S i) (get_or numbers (place_of S (at_place S i)) 0) (states_of S (at_place S i))

  page_rows : page S numbers ≡ each (entries S) (λ i. cond (eqb (get_or numbers i 0) unmeasured) [] (text_at i))
  unfolding page
  page_rows = flat S (text_of S numbers) ∙ each_cong (entries S) _ _ (λ i h. rw (number_at i h))

  long_at : (i : ℕ) → i < entries S → eqb (get_or numbers i 0) unmeasured ≡ false → length (text_at i) ≡ page_line
  long_at i h e = line_41 (at_place S i) (place_set S i h).0 (rw (number_at i h) (eqb-false _ _ e))

  pub page_long : length (page S numbers) ≡ page_line * lines_before numbers (entries S)
  page_long = rw page_rows (all_long (λ i. eqb (get_or numbers i 0) unmeasured) text_at (entries S) long_at)

  pub line_at_lem : (T : Critical) → Of S T → ¬ (get_or numbers (place_of S T) 0 ≡ unmeasured)
      → take page_line (drop (page_line * lines_before numbers (place_of S T)) (page S numbers)) ≡ line_of T (get_or numbers (place_of S T) 0) (states_of S T)
  line_at_lem T o ne =
      rw page_rows
      (row_at (λ i. eqb (get_or numbers i 0) unmeasured) text_at (entries S) long_at (place_of S T) (place_of_lt S T o) (ne_eqb _ _ ne)
      ∙ rw (set_place S T o))
