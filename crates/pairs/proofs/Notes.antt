-- Numbers of pairs written down, state by state of a row and row by row.
-- Assumes nothing.
use mathlib.Core.Bool.{Bool, true, false, cond, ◌&&◌, ◌||◌, and-or_distrib_left}
use mathlib.Core.Path.{◌≡◌, refl, ◌∙◌}
use mathlib.Core.List.{List}
use Prim.Native.Nat.{ℕ, ◌<◌}
use native.Mathlib.Decide.{ℕ_discrete}
use lib.Dec.{eqb}
use lib.ListN.{length, set, length-set}
use lib.Seq.{get_or-set_same, get_or-set_other}
use borrow.Author.Tests.{eq-eqb, eqb-true}
use Rattle.bitset.specs.Numbers.{has}
use Rattle.bitset.specs.Members.{Taken}
use Rattle.bitset.proofs.Tests.{and_out, not_so}
use Rattle.bitset.proofs.Taking.{Left, taken, next_below, taken_with, taken_all}
use Rattle.semiautomata.specs.Successors.{place}
use Rattle.semiautomata.proofs.Places.{place_same}
use Rattle.pairs.specs.Lifetimes.{lifetime}
use Rattle.pairs.specs.inner.Noting.{Noted}

-- NUMBERS WRITTEN DOWN

module _ {letters : ℕ} where
  -- first the pairs of P, then those of Q
  noted_then : {P Q R : ℕ → ℕ → Bool} {old mid new : List ℕ} → ((s t : ℕ) → R s t ≡ (P s t || Q s t))
      → Noted P letters old mid → Noted Q letters mid new → Noted R letters old new
  noted_then {P} {Q} {R} {old} f p q = record {
    long = q.long ∙ p.long;
    is = λ s t h. rw (f s t, q.is s t h, p.is s t h) (either (P s t) (Q s t) (lifetime old s t));
  }
    where
      either : (a b : Bool) (x : ℕ) → cond b letters (cond a letters x) ≡ cond (a || b) letters x
      either true true x = refl
      either true false x = refl
      either false true x = refl
      either false false x = refl

  noted_one : (s t : ℕ) {numbers : List ℕ} → t < 64 → place 64 s t < length numbers
      → Noted (λ x u. eqb s x && eqb t u) letters numbers (set numbers (place 64 s t) letters)
  noted_one s t {numbers} h room = record {
    long = length-set numbers (place 64 s t) letters;
    is = λ x u g. elim (ℕ_discrete (place 64 x u) (place 64 s t)) [
      | yes e ↦
          let (a, b) = place_same 64 x u s t g h e in
          rw (a, b, eq-eqb s s refl, eq-eqb t t refl) (get_or-set_same numbers (place 64 s t) letters 0 room)
      | no e ↦
          let other : (eqb s x && eqb t u) ≡ false =
          not_so _ (λ q. let (a, b) = and_out (eqb s x) _ q in e (rw (eqb-true s x a, eqb-true t u b))) in
          rw other (get_or-set_other numbers (place 64 s t) (place 64 x u) letters 0 e)
    ];
  }

  -- A ROW: the states of a set are taken one by one
  module _ (s states : ℕ) where
    module _ {rest : ℕ} (l : Left 64 states rest) {old new : List ℕ}
        (k : Noted (λ x t. eqb s x && taken states rest t) letters old new) where
      pub row_next : {t left : ℕ} (w : Taken rest t left) → place 64 s t < length new
          → Noted (λ x t. eqb s x && taken states left t) letters old (set new (place 64 s t) letters)
      row_next {t} w room =
          noted_then (λ x u. rw (taken_with l w u, and-or_distrib_left)) k (noted_one s t (next_below l w) room)

      pub row_all : rest ≡ 0 → Noted (λ x t. eqb s x && has states t) letters old new
      row_all e = record { long = k.long; is = λ x t h. k.is x t h ∙ rw (taken_all l e t) }
