-- Laws of the prepared form: what is written is the form, and what the form means.
-- Assumes nothing.
use Prim.Native.Nat.{ℕ, ◌+◌, ◌-◌, ◌*◌, ◌^◌, ◌≤◌, ◌<◌}
use mathlib.Core.Bool.{Bool, true, false}
use mathlib.Core.Path.{◌≡◌, refl, sym, ◌∙◌, ap}
use mathlib.Core.List.{List, [], ◌∷◌, ◌++◌}
use native.Mathlib.Omega.{arith}
use lib.Dec.{ltb}
use lib.ListN.{length, get_or, take, drop, set, length-append, get_or-append, take-append-drop}
use borrow.Rule.Slice.PartMut.{put_mid}
use lib.Seq.{sets-eq, drop-drop, get_or-take, length-take-le}
use borrow.Author.Tests.{lt-ltb}
use Rattle.bitset.specs.Numbers.{has, set_of}
use Rattle.bitset.proofs.Bits.{set_of_lt, set_of_has, set_of_cong, has_set_of}
use Rattle.bitset.proofs.Tests.{and_out, same_test}
use Rattle.semiautomata.specs.Semiautomaton.{Semiautomaton}
use Rattle.semiautomata.specs.Successors.{place, successors, Fit}
use Rattle.semiautomata.proofs.BySets.{place_lt, edge_is, successors_are, state_lt, letter_lt, place_of_lem}
use Rattle.table.specs.Table.{states_of, letters_of, lookahead_of, initial_of, sets_from, sets_of, table_meaning, unfit}
use Rattle.table.specs.Table.{sets_in_order, Contents, contents, contents_of, table_of, laid_out, Preparable}
use Rattle.table.proofs.Listed.{rows_length, rows_at, rows_are}
use Rattle.table.proofs.Fitness.{Fitting, fitting_of, fitting_fit}

pub form_length_lem : (C : Contents) → length (table_of C) ≡ sets_from + C.means.n * C.means.m
form_length_lem C = let S = C.means in let e = rows_length (λ q a. set_of S.n (S.edge q a)) S.m 0 S.n in rw e (omega arith)

-- numbers that are fit are the form of what they mean
module _ (n m k starts : ℕ) (sets : List ℕ) (f : Fit n m sets) (h : starts < 2 ^ n) where
  pub sets_in_order_lem : take (n * m) sets ≡ sets_in_order (successors n m starts sets)
  sets_in_order_lem =
      rows_are (λ q a. set_of n ((successors n m starts sets).edge q a)) m n _ (length-take-le _ sets f.room) λ q a hq ha.
      let i = place_lt n m q a hq ha in
      get_or-take (n * m) sets _ 0 i
      ∙ sym (set_of_has n _ (f.below _ i)) ∙ set_of_cong n _ _ (λ t _. sym (edge_is n m starts sets q a t hq ha))

  pub laid : (old : List ℕ)
      → n ∷ m ∷ k ∷ starts ∷ take (n * m) sets ++ drop (sets_from + n * m) old ≡ laid_out (contents (successors n m starts sets) k) old
  laid old =
      let C = contents (successors n m starts sets) k in
      (λ i. n ∷ m ∷ k ∷ sym (set_of_has n starts h) i ∷ sets_in_order_lem i ++ drop (sets_from + n * m) old)
      ∙ ap (λ (c : ℕ). table_of C ++ drop c old) (sym (form_length_lem C))

  -- what code writes: the four numbers at the front and, behind them, the sets
  pub written : (old : List ℕ) {copied : List ℕ} → sets_from + n * m ≤ length old → copied ≡ take (n * m) sets
      → put_mid sets_from (sets_from + n * m - sets_from) (set (set (set (set old 0 n) 1 m) 2 k) 3 starts) copied
      ≡ laid_out (contents (successors n m starts sets) k) old
  written old room e =
      let c : sets_from + n * m - sets_from ≡ n * m = omega arith in
      rw (c, sets-eq (n ∷ m ∷ k ∷ starts ∷ []) old 0 (omega arith), e, drop-drop (n * m) sets_from old) (laid old)

-- A FIT TABLE

in_front : (t : List ℕ) → sets_from ≤ length t → t ≡ states_of t ∷ letters_of t ∷ lookahead_of t ∷ initial_of t ∷ sets_of t
in_front [] h = absurd (omega arith)
in_front (a ∷ []) h = absurd (omega arith)
in_front (a ∷ b ∷ []) h = absurd (omega arith)
in_front (a ∷ b ∷ c ∷ []) h = absurd (omega arith)
in_front (a ∷ b ∷ c ∷ d ∷ l) h = refl

pub one_form : {t : List ℕ} → Fitting t → t ≡ laid_out (contents_of t) t
one_form {t} f =
    let c = states_of t * letters_of t in
    in_front t (omega (arith, f.room))
    ∙ ap (λ (l : List ℕ). states_of t ∷ letters_of t ∷ lookahead_of t ∷ initial_of t ∷ l)
    (sym (take-append-drop c (sets_of t)) ∙ ap (λ (l : List ℕ). take c (sets_of t) ++ l) (drop-drop c sets_from t))
    ∙ laid _ _ (lookahead_of t) _ _ f.fit f.initial t

-- WHAT IT MEANS

module _ (C : Contents) (P : Preparable C) (rest : List ℕ) where
  abbrev S : Semiautomaton
  S = C.means

  form_set : (q a : ℕ) → q < S.n → a < S.m → get_or (sets_of (table_of C ++ rest)) (place S.m q a) 0 ≡ set_of S.n (S.edge q a)
  form_set q a h g =
      let f : ℕ → ℕ → ℕ = λ q a. set_of S.n (S.edge q a) in
      let i : place S.m q a < length (sets_in_order S) = rw (rows_length f S.m 0 S.n) (place_lt S.n S.m q a h g) in
      get_or-append (sets_in_order S) rest 0 _ i ∙ rows_at f S.m 0 S.n q a q h g (omega arith)

  pub form_means : table_meaning (table_of C ++ rest) ≡ S
  form_means =
      successors_are S P.sized.within _ (sets_of (table_of C ++ rest)) (same _ P.sized.within.initial_lt)
      (λ q a t h g. ap (λ (x : ℕ). has x t) (form_set q a h g) ∙ same _ (P.sized.within.to_lt q a) t)
    where
      same : (X : ℕ → Bool) → ((t : ℕ) → X t ≡ true → t < S.n) → (t : ℕ) → has (set_of S.n X) t ≡ X t
      same X below t =
          has_set_of S.n X t ∙ same_test _ _ (λ e. (and_out (ltb t S.n) (X t) e).1) (λ e. rw (lt-ltb t S.n (below t e), e))

  pub form_fitting : Fitting (table_of C ++ rest)
  form_fitting =
      let z = P.sized in
      fitting_of (record { some_state = z.n_low; states = z.n_high; some_letter = z.m_low; letters = z.m_high })
      (rw (length-append, form_length_lem C) (omega arith)) P.lookahead (set_of_lt _ _) λ i h.
      rw (← place_of_lem S.n S.m i h, form_set _ _ (state_lt S.n S.m i h) (letter_lt S.n S.m i h)) (set_of_lt _ _)

-- what a table reads as: it is fit, and holds C
pub record Reads (C : Contents) (table : List ℕ) : Type 0 where
  pub fit : unfit table ≡ false
  pub means : table_meaning table ≡ C.means
  pub k_is : lookahead_of table ≡ C.lookahead

pub reads_contents : {C : Contents} {table : List ℕ} → Reads C table → contents_of table ≡ C
reads_contents r i = record { means = r.means i; lookahead = r.k_is i }

pub form_reads : {C : Contents} {table : List ℕ} (rest : List ℕ) → Preparable C → table ≡ table_of C ++ rest → Reads C table
form_reads {C} rest P e = rw e (record { fit = fitting_fit (form_fitting C P rest); means = form_means C P rest; k_is = refl })
