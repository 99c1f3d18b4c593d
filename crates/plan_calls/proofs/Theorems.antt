-- The theorems of specs/Theorems.antt.
-- Assumes nothing.
use Rattle.std.specs.Prelude.{Result, Ok, Err}
use Prim.Native.Nat.{ℕ, ◌≤◌, ◌<◌}
use mathlib.Core.Option.{some}
use mathlib.Core.Path.{◌≡◌, refl, sym, ◌∙◌, ap}
use mathlib.Core.List.{List, ◌++◌}
use mathlib.Core.Logic.{◌↔◌, inl, inr}
use native.Mathlib.Omega.{arith}
use lib.ListN.{length, get_or, take}
use Rattle.semiautomata.specs.Predictability.{Critical, named, Lookahead}
use Rattle.semiautomata.specs.Sizes.{endless}
use Rattle.refusals.specs.Outcomes.{Outcome, refused, answered, refusing}
use Rattle.plan.specs.Asked.{Asked, refusal_of, Passes, Proper}
use Rattle.plan.specs.Bytes.{unnamed}
use Rattle.plan.proofs.Asked.{clear_passes}
use Rattle.plan.proofs.Refusals.{unnamed_proper}
use Rattle.refusals.specs.Named.{outcome_of}
use Rattle.refusals.specs.declared.Refusal.{Refusal}
use Rattle.prepare.specs.declared.Unprepared.TheVariants as prepare
use Rattle.prepare.specs.Preparing.{Prepared, LooksAhead, outcome_of_prepared, as_number, Draws}
use Rattle.prepare.specs.Theorems.{EitherCall}
use Rattle.prepare.proofs.Answers.{small}
use Rattle.prepare.proofs.Theorems.{theorems as preparing-theorems}
use Rattle.filing.specs.Writing.{Writes}
use Rattle.filing.specs.Theorems.{WrittenFor}
use Rattle.filing.proofs.Form.{written_few}
use Rattle.needs.specs.Needs.{Of, place_of, TellsNeeds, largest, NeedsOf}
use Rattle.needs.specs.Theorems.{LookedAhead, SomeEndless}
use Rattle.needs.specs.Theorems as needs_theorems
use Rattle.needs.proofs.Theorems.{looked, needs_few, met}
use Rattle.pages.specs.Page.{page, max_page}
use Rattle.pages.specs.Paging.{PageOf}
use Rattle.pages.proofs.Theorems.{met as pages-met}
use Rattle.numbers.specs.Numbers.{Passed, Number, value, refusal as refusal-number, answers, refuses}
use Rattle.numbers.proofs.Answering.{gives_number}
use Rattle.plan_calls.specs.Promises.{evidence_of, of_count, of_page, claim_of, PassesPage}
use Rattle.plan_calls.specs.Theorems.{AnswersAhead, prepared, counted, drawn, ShowsEvidence, Unnamed, Met}
use Rattle.plan_calls.proofs.Answering.{unread_number, short_number, reading_number, prepared_number, counted_number, checked_number}

drawn_number : (A : Asked) → Proper A → {r : ℕ} → Draws A r → Number r
drawn_number A P d = rw d.is (go d.outcome d.looks_ahead)
  where
    go : (o : Outcome ℕ) → LooksAhead (refusal_of A) A.means o → Number (as_number o)
    go (refused r) (inl (e, n)) = unread_number A P e n
    go (refused r) (inr (_, e, _)) = refusal-number 15 (omega arith) (omega arith) (rw e)
    go (answered k) (w, l) = let h = small (P.sized w) k l in value (omega arith)

-- what writing answers, and what it wrote
written_number : (plan old out : List ℕ) (a : Result ℕ Refusal) → Writes plan a old out → Number (of_count a).first
written_number plan old out (Ok count) w = value (omega (arith, written_few plan old out count w))
written_number plan old out (Err r) (e, z, _) = short_number (unnamed plan) (unnamed_proper plan) _ e z

written_for : (plan old out : List ℕ) (r : ℕ) (a : Result ℕ Refusal) → Writes plan a old out → r ≡ (of_count a).first → r < 65536
    → WrittenFor plan (take r out)
written_for plan old out r (Ok count) w e h = record { count = count; old = old; out = out; writes = w; are = rw e }
written_for plan old out r (Err x) w e h = absurd (omega arith)

-- how many needs there are, and what they tell
needed_number : (A : Asked) (P : Proper A) (old needs : List ℕ) (a : Result ℕ Refusal) → NeedsOf A a old needs → Number (of_count a).first
needed_number A P old needs (Ok count) d = value (omega (arith, needs_few A P count old needs d))
needed_number A P old needs (Err r) (e, z, _) = short_number A P _ e z

needed_is : (a : Result ℕ Refusal) {count : ℕ} → outcome_of a ≡ answered count → (of_count a).first ≡ count
needed_is a e = rw e

told_of : (A : Asked) (P : Proper A) (old needs : List ℕ) (r : ℕ) (a : Result ℕ Refusal) → NeedsOf A a old needs → r ≡ (of_count a).first → r < 65536
    → Passes A × needs_theorems.Theorems A (take r needs)
told_of A P old needs r (Ok count) d e h =
    (clear_passes A P _ d.0, rw e ((met A P).written count old needs d))
told_of A P old needs r (Err x) d e h = absurd (omega arith)

-- a page, and how many bytes it has
paged_number : (A : Asked) (P : Proper A) (old out : List ℕ) (a : Result ℕ Refusal) → PageOf A a old out → Number (of_page a).first
paged_number A P old out (Ok count) p = value (omega arith)
paged_number A P old out (Err r) p = let (e, z, _) = p.gives in short_number A P _ e z

-- a page that was not refused is one of so many bytes
paged : (A : Asked) (P : Proper A) {r : ℕ} {old out old' count' : List ℕ} → PassesPage A r old out old' count' → r < 65536
    → (r ≡ 0) × PageOf A (Ok (get_or count' 0 0)) old out
paged A P (answers _ (Ok count) p s) h = (s.answered, rw s.written p)
paged A P (answers _ (Err x) p s) h = absurd (omega (arith, s.answered))
paged A P (refuses _ e _ _) h = absurd (omega (arith, e))

paged_is : (a : Result ℕ Refusal) {count r : ℕ} {old count' : List ℕ} → outcome_of a ≡ answered count → Passed (of_page a) r old count'
    → (r ≡ 0) × (get_or count' 0 0 ≡ count)
paged_is a e p = let q = rw e at p in (q.answered, rw q.written)

paged_so : (A : Asked) (P : Proper A) {r : ℕ} {old out old' count' : List ℕ} → PassesPage A r old out old' count' → Passes A
    → (numbers : List ℕ) → TellsNeeds A.means numbers → length (page A.means numbers) ≤ length old → 1 ≤ length old'
    → (r ≡ 0) × (get_or count' 0 0 ≡ length (page A.means numbers))
paged_so A P {old = old} {out = out} (answers _ a p s) w numbers t room _ =
    paged_is a ((pages-met A P).answers w numbers t a old out room p) s
paged_so A P (refuses short _ _ _) w numbers t room one = absurd (omega arith)

paged_all : (A : Asked) (P : Proper A) {r : ℕ} {old out old' count' : List ℕ} → PassesPage A r old out old' count' → Passes A
    → max_page ≤ length old → 1 ≤ length old' → r ≡ 0
paged_all A P {old = old} {out = out} (answers _ a p s) w room _ =
    (paged_is a ((pages-met A P).enough w a old out room p).2 s).0
paged_all A P (refuses short _ _ _) w room one = absurd (omega arith)

-- .. of the numbers that the call for the needs wrote
needed_page : (A : Asked) (P : Proper A) (old out : List ℕ) (count : ℕ) → PageOf A (Ok count) old out
    → (answer : ℕ) (old' needs : List ℕ) (a : Result ℕ Refusal) → NeedsOf A a old' needs → answer ≡ (of_count a).first → answer < 65536
    → take count out ≡ page A.means (take answer needs)
needed_page A P old out count q answer old' needs (Ok entries) d e h =
    rw e ((pages-met A P).of_needs count entries old out old' needs q d)
needed_page A P old out count q answer old' needs (Err x) d e h = absurd (omega arith)

-- WHAT A LOOK-AHEAD IS ANSWERED WITH, in numbers

-- the outcome that the number stands for
pub looked_ahead : (A : Asked) (P : Proper A) {answer : ℕ} → AnswersAhead A answer
    → (o : Outcome ℕ) × LookedAhead A o × (answer ≡ as_number o)
looked_ahead A P (prepared old table old' letters old'' evidence room room' _ (answers _ a d p)) =
    (outcome_of_prepared a, inl (a, old, table, old', letters, refl, room, room', d), p.answered)
looked_ahead A P (prepared old table old' letters old'' evidence _ _ room (refuses short _ _ _)) = absurd (omega arith)
looked_ahead A P (counted old letters old' evidence room _ (answers _ a d p)) =
    (outcome_of_prepared a, inr (inl (a, old, letters, refl, room, d)), p.answered)
looked_ahead A P (counted old letters old' evidence _ room (refuses short _ _ _)) = absurd (omega arith)
looked_ahead A P {answer} (drawn d) = (d.outcome, inr (inr (answer, d, refl)), d.is)

module _ (A : Asked) (P : Proper A) (w : Passes A) where
  few : {k : ℕ} → Lookahead A.means k → k ≤ 4096
  few l = small (P.sized w) _ l

  -- no look-ahead has the number of 15
  is_15 : (o : Outcome ℕ) → LooksAhead 0 A.means o → refusing 15 ≡ as_number o → o ≡ refused 15
  is_15 (refused r) _ e = let z : r ≡ 15 = omega arith in ap refused z
  is_15 (answered k) (_, l) e = absurd (omega (arith, few l))

  module _ {numbers : List ℕ} (t : needs_theorems.Theorems A numbers) where
    largest_ahead : {answer : ℕ} → AnswersAhead A answer
        → (¬ SomeEndless numbers → answer ≡ largest numbers) × (SomeEndless numbers ↔ (answer ≡ refusing 15))
    largest_ahead l =
        let (o, looks, is) = looked_ahead A P l in (
          λ none. is ∙ ap as_number (t.largest_k none o looks),
          (
            (λ s. is ∙ ap as_number ((t.endless_15 o looks).0 s)),
            λ e. (t.endless_15 o looks).1 (is_15 o (looked A P w o looks) (sym e ∙ is)),
          ),
        )

    -- the numbers of the evidence name its set
    shown : (a : Prepared) (old letters rest : List ℕ) {evidence : List ℕ} → EitherCall A a old letters
        → refusing 15 ≡ as_number (outcome_of_prepared a) → evidence ≡ evidence_of a ++ rest
        → (T : Critical) × (named A.means (get_or evidence 0 0) (get_or evidence 1 0) ≡ some T) × Of A.means T
        × (get_or numbers (place_of A.means T) 0 ≡ endless)
    shown (Ok k) old letters rest d e _ =
        absurd (omega (arith, few ((preparing-theorems A P).ready_so k old letters d)))
    shown (Err (prepare.Refused r)) old letters rest (inl (_, (n, _))) e _ = absurd (n (omega arith))
    shown (Err (prepare.Refused r)) old letters rest (inr (_, _, (_, _, (n, _)))) e _ = absurd (n (omega arith))
    shown (Err (prepare.Unpredictable x)) old letters rest d e is = rw is (t.evidence_endless x old letters d)

    evidence_ahead : {evidence : List ℕ} → ShowsEvidence A evidence
        → (T : Critical) × (named A.means (get_or evidence 0 0) (get_or evidence 1 0) ≡ some T) × Of A.means T
        × (get_or numbers (place_of A.means T) 0 ≡ endless)
    evidence_ahead (inl (old, table, old', letters, _, _, answers _ a d p)) =
        shown a old' letters _ (inr (old, table, d)) p.answered p.written
    evidence_ahead (inl (_, _, _, _, _, room, refuses short _ _ _)) = absurd (omega arith)
    evidence_ahead (inr (old, letters, _, _, answers _ a d p)) = shown a old letters _ (inl d) p.answered p.written
    evidence_ahead (inr (_, _, _, room, refuses short _ _ _)) = absurd (omega arith)

pub unnamed_so : (r : ℕ) → Unnamed r
unnamed_so r = record {
  reading = λ plan old counts. gives_number (unnamed_proper plan).numbered (reading_number plan);
  writing = λ plan old out p. rw p.passed.answered (written_number plan old out p.answer p.meets);
  written = λ plan old out p. written_for plan old out r p.answer p.meets p.passed.answered;
}

pub theorems : Met
theorems A P r = record {
  preparing = λ old table old' letters old'' evidence. gives_number P.numbered (prepared_number A P old table old' letters);
  counting = λ old letters old' evidence. gives_number P.numbered (counted_number A P old letters);
  drawing = drawn_number A P;
  checking = λ claim letters p. rw p.passed.answered (checked_number A P (claim_of claim) letters p.answer p.meets);
  needing = λ old needs p. rw p.passed.answered (needed_number A P old needs p.answer p.meets);
  paging = λ old out old' count'. gives_number P.numbered (paged_number A P old out);
  needed = λ old needs p w room. p.passed.answered ∙ needed_is p.answer ((met A P).answers w p.answer old needs room p.meets);
  told = λ old needs p h. (told_of A P old needs r p.answer p.meets p.passed.answered h).1;
  largest_ahead = λ old needs p h answer l.
      let (w, t) = told_of A P old needs r p.answer p.meets p.passed.answered h in
      largest_ahead A P w t l;
  evidence_ahead = λ old needs p h evidence s.
      let (w, t) = told_of A P old needs r p.answer p.meets p.passed.answered h in
      evidence_ahead A P w t s;
  paged = λ old out old' count' p h.
      let (e, q) = paged A P p h in
      (e, (pages-met A P).written (get_or count' 0 0) old out q);
  pages_so = λ old out old' count p. paged_so A P p;
  pages_all = λ old out old' count p. paged_all A P p;
  paged_needs = λ old out old' count' p h answer old'' needs n g.
      let (_, q) = paged A P p h in
      needed_page A P old out (get_or count' 0 0) q answer old'' needs n.answer n.meets n.passed.answered g;
}
