-- The theorems of specs/Theorems.antt.
-- Assumes nothing.
use Prim.Native.Nat.{ℕ, ◌+◌, ◌-◌, ◌*◌, ◌≤◌, ◌<◌}
use mathlib.Core.Bool.{Bool, false, not, false≢true}
use mathlib.Core.Path.{◌≡◌, refl, sym, ◌∙◌, ap}
use mathlib.Core.List.{List, [], ◌∷◌, ◌++◌, append_assoc, append-nil}
use native.Mathlib.Nat.{mul-le-mul}
use native.Mathlib.Decide.{ℕ_discrete}
use native.Mathlib.Omega.{arith}
use lib.Dec.{eqb}
use lib.ListN.{length, get_or, take, drop, length-append}
use lib.Seq.{take-append_seam, take_at, drop_at}
use borrow.Author.Tests.{eq-eqb, eqb-false, not-true, le-ltb}
use Rattle.bitset.proofs.Below.{size_none}
use Rattle.std.specs.Prelude.{Result, Ok, Err}
use Rattle.refusals.specs.declared.Refusal.{Refusal}
use Rattle.refusals.specs.Outcomes.{answered, refused}
use Rattle.refusals.specs.Named.{outcome_of}
use Rattle.decimals.specs.Decimals.{blanks, right, left}
use Rattle.decimals.proofs.Columns.{right_long, left_long}
use Rattle.semiautomata.specs.Semiautomaton.{Semiautomaton}
use Rattle.semiautomata.specs.Sizes.{Sized, endless, unmeasured}
use Rattle.semiautomata.specs.Predictability.{Critical, initial, fork}
use Rattle.plan.specs.Asked.{Asked, refusal_of, Passes, Proper}
use Rattle.plan.proofs.Asked.{clear_passes, refused_passing, unread}
use Rattle.needs.specs.Needs.{Measured, Of, place_of, entries, TellsNeeds, NeedsOf}
use Rattle.needs.proofs.Largest.{each_place}
use Rattle.needs.proofs.Theorems.{tells_unique, met as needs-met}
use Rattle.pages.specs.Page.{state_text, letter_text, need_text, longest_bar, bar, line, line_of, states_of, page, lines_before, line_count, max_page}
use Rattle.pages.specs.Paging.{page_refusal, PageOf}
use Rattle.pages.specs.Theorems.{line_at, cut, InColumns, Theorems, Met}
use Rattle.pages.proofs.Columns.{bar_short}
use Rattle.pages.proofs.Rows.{size_reach, size_mono, size_most}
use Rattle.pages.proofs.Counting.{texts_short, line_41, page_long, line_at_lem, lines_next_with}

-- COLUMNS

-- a part of a list, behind others of a known length
part : (l a b c : List ℕ) (i w : ℕ) → l ≡ a ++ b ++ c → length a ≡ i → length b ≡ w → take w (drop i l) ≡ b
part l a b c i w is e f = rw (is, append_assoc a b c, drop_at a (b ++ c) i e) (take_at b c w f)

-- of a list of eight parts
module _ (p₁ p₂ p₃ p₄ p₅ p₆ p₇ p₈ : List ℕ) where
  abbrev eight : List ℕ
  eight = p₁ ++ p₂ ++ p₃ ++ p₄ ++ p₅ ++ p₆ ++ p₇ ++ p₈

  module _ (l₁ : length p₁ ≡ 4) (l₂ : length p₂ ≡ 1) (l₃ : length p₃ ≡ 4) (l₄ : length p₄ ≡ 1) (l₅ : length p₅ ≡ 6) (l₆ : length p₆ ≡ 1)
      (l₇ : length p₇ ≡ 23) (l₈ : length p₈ ≡ 1) where
    abbrev Cut : Type 0
    Cut = (cut 1 4 eight ≡ p₁) × (cut 5 5 eight ≡ p₂) × (cut 6 9 eight ≡ p₃) × (cut 10 10 eight ≡ p₄)
        × (cut 11 16 eight ≡ p₅) × (cut 17 17 eight ≡ p₆) × (cut 18 40 eight ≡ p₇) × (cut 41 41 eight ≡ p₈)

    cuts : Cut
    cuts = (
      part eight [] p₁ (p₂ ++ p₃ ++ p₄ ++ p₅ ++ p₆ ++ p₇ ++ p₈) 0 4 (simp append_assoc) refl l₁,
      part eight p₁ p₂ (p₃ ++ p₄ ++ p₅ ++ p₆ ++ p₇ ++ p₈) 4 1 (simp append_assoc) l₁ l₂,
      part eight (p₁ ++ p₂) p₃ (p₄ ++ p₅ ++ p₆ ++ p₇ ++ p₈) 5 4 (simp append_assoc) (simp length-append (omega arith)) l₃,
      part eight (p₁ ++ p₂ ++ p₃) p₄ (p₅ ++ p₆ ++ p₇ ++ p₈) 9 1 (simp append_assoc) (simp length-append (omega arith)) l₄,
      part eight (p₁ ++ p₂ ++ p₃ ++ p₄) p₅ (p₆ ++ p₇ ++ p₈) 10 6 (simp append_assoc) (simp length-append (omega arith)) l₅,
      part eight (p₁ ++ p₂ ++ p₃ ++ p₄ ++ p₅) p₆ (p₇ ++ p₈) 16 1 (simp append_assoc) (simp length-append (omega arith)) l₆,
      part eight (p₁ ++ p₂ ++ p₃ ++ p₄ ++ p₅ ++ p₆) p₇ p₈ 17 23 (simp append_assoc) (simp length-append (omega arith)) l₇,
      part eight (p₁ ++ p₂ ++ p₃ ++ p₄ ++ p₅ ++ p₆ ++ p₇) p₈ [] 40 1 (simp append-nil) (simp length-append (omega arith)) l₈,
    )

-- where there is no initial state, no state is accessible
no_set : (S : Semiautomaton) → ((s : ℕ) → S.initial s ≡ false) → (T : Critical) → ¬ Measured S T
no_set S none initial (_, (s, e)) = false≢true (sym (none s) ∙ e)
no_set S none (fork q a) ((c, _), _) = false≢true (sym (none c.start) ∙ c.from_it)

empty : (l : List ℕ) → length l ≡ 0 → l ≡ []
empty [] e = refl
empty (x ∷ l) e = absurd (omega arith)

-- a line has eight parts
line_eight : (state letter : List ℕ) (v count : ℕ)
    → line state letter v count
    ≡ eight (right 4 state) (blanks 1) (right 4 letter) (blanks 1) (right 6 (need_text v)) (blanks 1) (left longest_bar (bar count)) (10 ∷ [])
unfolding line
line_eight state letter v count = simp append_assoc

module _ {S : Semiautomaton} (Z : Sized S) {numbers : List ℕ} (t : TellsNeeds S numbers) where
  in_columns : (T : Critical) → Of S T → ¬ (get_or numbers (place_of S T) 0 ≡ unmeasured)
      → InColumns S T (get_or numbers (place_of S T) 0) (line_of T (get_or numbers (place_of S T) 0) (states_of S T))
  in_columns T o ne =
      let v = get_or numbers (place_of S T) 0 in
      let (s, l, n) = texts_short Z.within Z.n_high Z.m_high t T o ne in
      let e = line_eight (state_text T) (letter_text T) v (states_of S T) in
      let (c₁, c₂, c₃, c₄, c₅, c₆, c₇, c₈) = cuts _ _ _ _ _ _ _ _ (right_long 4 (state_text T) s) refl (right_long 4 (letter_text T) l) refl
      (right_long 6 (need_text v) n) refl (left_long 23 (bar (states_of S T)) (bar_short (states_of S T))) refl in
      record {
        width = line_41 Z.within Z.n_high Z.m_high t T o ne;
        state = rw e c₁;
        column_5 = rw e c₂;
        letter = rw e c₃;
        column_10 = rw e c₄;
        need = rw e c₅;
        column_17 = rw e c₆;
        bar_is = rw e c₇;
        line_feed_lem = rw e c₈;
      }

  -- A LINE FOR EXACTLY THE SETS THAT COUNT AND ARE NOT EMPTY

  counted : (T : Critical) → Of S T → Measured S T → ¬ (get_or numbers (place_of S T) 0 ≡ unmeasured)
  counted T o M e = (t.says T o).unmeasured_is.0 e M

  measured : (T : Critical) → Of S T → ¬ (get_or numbers (place_of S T) 0 ≡ unmeasured) → Measured S T
  measured T o ne = elim (ℕ_discrete (get_or numbers (place_of S T) 0) endless) [
    | yes e ↦ ((t.says T o).endless_is.0 e).0
    | no x ↦ ((t.says T o).need_is ne x).0
  ]

  each_line : (T : Critical) → Of S T → Measured S T
      → InColumns S T (get_or numbers (place_of S T) 0) (line_at (page S numbers) (lines_before numbers (place_of S T)))
  each_line T o M = let ne = counted T o M in rw (line_at_lem Z.within Z.n_high Z.m_high t T o ne) (in_columns T o ne)

  in_order_lem : (T U : Critical) → Of S T → Measured S T → place_of S T < place_of S U
      → lines_before numbers (place_of S T) < lines_before numbers (place_of S U)
  in_order_lem T U o M h =
      let e : place_of S U - (place_of S T + 1) + (place_of S T + 1) ≡ place_of S U = omega arith in
      let some : ℕ → Bool = λ i. not (eqb (get_or numbers i 0) unmeasured) in
      let m : lines_before numbers (place_of S T + 1) ≤ lines_before numbers (place_of S U) =
      rw e at (size_mono some (place_of S T + 1) (place_of S U - (place_of S T + 1))) in
      omega (arith, m, lines_next_with numbers (place_of S T) (counted T o M))

  each_set : (k : ℕ) → k < line_count numbers
      → (T : Critical) × Of S T × Measured S T × (lines_before numbers (place_of S T) ≡ k)
  each_set k h =
      let (i, l, e, is) = size_reach (length numbers) (λ i. not (eqb (get_or numbers i 0) unmeasured)) k h in
      let (T, o, at) = each_place S i (omega (arith, l, t.long)) in
      (T, o, measured T o (rw at (eqb-false _ _ (not-true _ e))), rw at is)

  bytes : length (page S numbers) ≡ 41 * line_count numbers
  bytes = rw t.long (page_long Z.within Z.n_high Z.m_high t)

  pub most : length (page S numbers) ≤ max_page
  most = omega (
    arith,
    bytes,
    size_most (length numbers) (λ i. not (eqb (get_or numbers i 0) unmeasured)),
    t.long,
    mul-le-mul Z.n_high Z.m_high,
  )

  no_starts : ((s : ℕ) → S.initial s ≡ false) → page S numbers ≡ []
  no_starts none =
      let idle : (T : Critical) → ¬ Measured S T = no_set S none in
      let all : (i : ℕ) → i < length numbers → not (eqb (get_or numbers i 0) unmeasured) ≡ false = λ i h.
      let (T, o, at) = each_place S i (omega (arith, h, t.long)) in
      rw (eq-eqb (get_or numbers i 0) unmeasured (rw at at ((t.says T o).unmeasured_is.1 (idle T)))) in
      empty (page S numbers) (omega (arith, bytes, size_none (length numbers) _ all))

-- OF THE CALLS

module _ (A : Asked) (P : Proper A) where
  -- where no check applies the numbers are those that tell the needs
  module _ {a : Result ℕ Refusal} {old out : List ℕ} (p : PageOf A a old out) (w : Passes A) where
    pub same_numbers : (numbers : List ℕ) → TellsNeeds A.means numbers → p.numbers ≡ numbers
    same_numbers numbers t = tells_unique p.numbers numbers (p.tells w) t

  theorems_of : Passes A → (numbers : List ℕ) → TellsNeeds A.means numbers → Theorems A numbers (page A.means numbers)
  theorems_of w numbers t = let Z = P.sized w in record {
    tells = t;
    is = refl;
    each_line = each_line Z t;
    in_order_lem = in_order_lem Z t;
    each_set = each_set Z t;
    bytes = bytes Z t;
    most = most Z t;
    no_starts = no_starts Z t;
  }

  module _ (count : ℕ) (old out : List ℕ) (p : PageOf A (Ok count) old out) where
    pub passes : Passes A
    passes = clear_passes A P _ p.gives.0

    pub at_front_lem : take count out ≡ page A.means p.numbers
    at_front_lem = let (_, (e, is)) = p.gives in rw (e, is) (take-append_seam (page A.means p.numbers) _)

    theorems : Theorems A p.numbers (take count out)
    theorems = rw at_front_lem (theorems_of passes p.numbers (p.tells passes))

    of_needs : (entries : ℕ) (old' needs : List ℕ) → NeedsOf A (Ok entries) old' needs
        → take count out ≡ page A.means (take entries needs)
    of_needs entries old' needs n =
        rw (at_front_lem, same_numbers p passes (take entries needs) ((needs-met A P).written entries old' needs n).tells)

  answers : Passes A → (numbers : List ℕ) → TellsNeeds A.means numbers → (a : Result ℕ Refusal) (old out : List ℕ)
      → length (page A.means numbers) ≤ length old → PageOf A a old out
      → outcome_of a ≡ answered (length (page A.means numbers))
  answers w numbers t (Ok c) old out room p = rw (p.gives.1.0, same_numbers p w numbers t)
  answers w numbers t (Err r) old out room p =
      let (e, n, _) = p.gives in
      let fits : length (page A.means p.numbers) ≤ length old = rw (same_numbers p w numbers t) room in
      absurd (n (e ∙ refused_passing A P w _ ∙ rw (le-ltb (length old) (length (page A.means p.numbers)) fits)))

  enough : Passes A → (a : Result ℕ Refusal) (old out : List ℕ) → max_page ≤ length old → PageOf A a old out
      → (numbers : List ℕ) × Theorems A numbers (page A.means numbers) × (outcome_of a ≡ answered (length (page A.means numbers)))
  enough w a old out room p =
      let t = p.tells w in
      let fits = most (P.sized w) t in (
        p.numbers,
        theorems_of w p.numbers t,
        answers w p.numbers t a old out (omega (arith, fits, room)) p,
      )

  -- two calls with as many bytes lent have the same refusal
  same_refusal : {a b : Result ℕ Refusal} {old out out' : List ℕ} (p : PageOf A a old out) (q : PageOf A b old out')
      → page_refusal A (page A.means p.numbers) (length old) ≡ page_refusal A (page A.means q.numbers) (length old)
  same_refusal p q = elim (ℕ_discrete (refusal_of A) 0) [
    | yes w ↦ rw (same_numbers p w q.numbers (q.tells w))
    | no n ↦ sym (unread A P refl n _) ∙ unread A P refl n _
  ]

  same : (a b : Result ℕ Refusal) (old out out' : List ℕ) → PageOf A a old out → PageOf A b old out'
      → (outcome_of a ≡ outcome_of b) × (out ≡ out')
  same (Ok c) (Ok d) old out out' p q =
      let text = same_numbers p (passes c old out p) q.numbers (q.tells (passes c old out p)) in
      let (_, (e, is)) = p.gives in
      let (_, (e', is')) = q.gives in
      (ap answered (e ∙ rw text (sym e')), is ∙ rw text (sym is'))
  same (Ok c) (Err r) old out out' p q = let (e, n, _) = q.gives in absurd (n (e ∙ sym (same_refusal p q) ∙ p.gives.0))
  same (Err r) (Ok c) old out out' p q = let (e, n, _) = p.gives in absurd (n (e ∙ same_refusal p q ∙ q.gives.0))
  same (Err r) (Err s) old out out' p q =
      let (e, _, is) = p.gives in
      let (e', _, is') = q.gives in
      (ap refused (e ∙ same_refusal p q ∙ sym e'), is ∙ sym is')

pub met : Met
met A P = record {
  answers = answers A P;
  enough = enough A P;
  written = λ count old out p. (p.numbers, theorems A P count old out p);
  of_needs = λ count entries old out old' needs p n. of_needs A P count old out p entries old' needs n;
  same = same A P;
}
