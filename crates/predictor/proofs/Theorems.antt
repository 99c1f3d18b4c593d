-- The theorems of specs/Theorems.antt.
-- Assumes nothing.
use Prim.Native.Nat.{ℕ}
use mathlib.Core.Bool.{true, not}
use mathlib.Core.Path.{◌≡◌, refl, sym, ◌∙◌, ap}
use mathlib.Core.Logic.{◌↔◌}
use mathlib.Core.List.{List, []}
use borrow.Author.Tests.{not-false}
use Rattle.bitset.proofs.Tests.{and_out}
use Rattle.semiautomata.specs.Semiautomaton.{Semiautomaton}
use Rattle.streaming.specs.Calls.{Result, refused, checked}
use Rattle.refusals.specs.Checks.{Check, first_of, Numbered}
use Rattle.streaming.specs.Streaming.{Rec, unopened, open_checks, opened, feed_checks, feed, Undecided, UndecidedBy}
use Rattle.streaming.proofs.Calls.{lacks, passed_done, behind}
use Rattle.refusals.proofs.First.{Passed, first_passed, passed_first}
use Rattle.streaming.proofs.Streaming.{opening_14, feeding_14}
use Rattle.table.specs.Table.{lookahead_of, table_meaning}
use Rattle.table.proofs.Fitness.{fitting}
use Rattle.records.specs.Bytes.{decode, tidy}
use Rattle.predictor.specs.Calls.{opening_checks, letter_checks, onto, opened_on, fed_on}
use Rattle.predictor.specs.Theorems.{Theorems}
use Rattle.predictor.proofs.Tables.{opened_on_lem, fed_on_lem}

-- 14 of bytes, where what passes their checks passes the record's
through : {U : Type 0} (cs ds : List Check) → lacks 14 cs ≡ true → Numbered 13 cs → (k : ℕ) (bytes : List ℕ) (r : Rec) (done : Result Rec)
    → (Passed cs → Passed ds × (((checked ds r done).reply ≡ refused 14) ↔ ((first_of ds ≡ 0) × U)))
    → ((checked cs bytes (onto k bytes done)).reply ≡ refused 14) ↔ ((first_of cs ≡ 0) × U)
through {U} cs ds l n k bytes r done f = (λ e. let (z, d) = here.0 e in (z, (there z).0 d), λ (z, u). here.1 (z, (there z).1 u))
  where
    here : ((checked cs bytes (onto k bytes done)).reply ≡ refused 14) ↔ ((first_of cs ≡ 0) × (done.reply ≡ refused 14))
    here = behind 14 13 cs l n bytes (onto k bytes done)

    there : first_of cs ≡ 0 → (done.reply ≡ refused 14) ↔ U
    there z =
        let (p, (out, in')) = f (first_passed 13 cs n z) in
        let e = ap (λ (r : Result Rec). r.reply) (passed_done ds r done p) in
        (λ d. (out (e ∙ d)).1, λ u. sym e ∙ in' (passed_first ds p, u))

module _ (table bytes : List ℕ) where
  abbrev S : Semiautomaton
  S = table_meaning table

  abbrev k : ℕ
  k = lookahead_of table

  opening : ((opened_on table bytes).reply ≡ refused 14) ↔ ((first_of (opening_checks table bytes) ≡ 0) × Undecided S k S.initial 0 [])
  unfolding opened_on opened
  opening =
      through (opening_checks table bytes) (open_checks S) refl refl k bytes unopened _
      (λ (fit, (_, p)). (p, opening_14 S (fitting table fit).within k))

  feeding : (a : ℕ) → ((fed_on table bytes a).reply ≡ refused 14)
      ↔ ((first_of (letter_checks table bytes a) ≡ 0) × UndecidedBy S k (decode bytes) a)
  unfolding fed_on feed
  feeding a =
      through (letter_checks table bytes a) (feed_checks S k (decode bytes) a) refl refl k bytes (decode bytes) _
      (λ (fit, (_, (b, p))). (
        (ap not (and_out (tidy k bytes) _ (not-false _ b)).1, p),
        feeding_14 S (fitting table fit).within k
            (decode bytes) a,
      ))

  pub theorems : Theorems table bytes
  theorems = record {
    opening_is = opened_on_lem table bytes;
    feeding_is = λ fit room t letter. fed_on_lem table bytes fit room letter t;
    opening_14 = λ a left (e, _). (λ d. opening.0 (sym e ∙ d), λ u. e ∙ opening.1 u);
    feeding_14 = λ letter a left (e, _). (λ d. (feeding letter).0 (sym e ∙ d), λ u. e ∙ (feeding letter).1 u);
  }
