-- The theorems of specs/Parties.antt: what a call gives depends on what is asked by its refusal and by what is meant alone.
-- Assumes nothing.
use Rattle.std.specs.Prelude.{Result}
use Prim.Native.Nat.{ℕ}
use mathlib.Core.Bool.{Bool, true, ◌||◌}
use mathlib.Core.Path.{◌≡◌, sym, ◌∙◌, ap, subst, fun_ext}
use mathlib.Core.Logic.{◌↔◌, inl, inr}
use mathlib.Core.List.{List}
use lib.Dec.{ltb}
use lib.ListN.{length}
use Rattle.semiautomata.specs.Semiautomaton.{Semiautomaton}
use Rattle.semiautomata.proofs.Shares.{lookahead_unique, lookahead_predicts}
use Rattle.refusals.specs.Outcomes.{Outcome, refused, answered, Gives, refusing}
use Rattle.plan.specs.Asked.{Asked, refusal_of, refusal_with, Passes, Proper}
use Rattle.plan.specs.Bytes.{asked}
use Rattle.plan.proofs.Asked.{refused_same}
use Rattle.plan.proofs.Refusals.{asked_proper, asked_zero}
use Rattle.plan.proofs.Parties.{theorems as of-parties}
use Rattle.table.specs.Table.{contents}
use Rattle.lookahead.specs.Answers.{TrueOf}
use Rattle.refusals.specs.Named.{outcome_of}
use Rattle.refusals.specs.declared.Refusal.{Refusal}
use Rattle.claim.specs.Checking.{Checks}
use Rattle.prepare.specs.Preparing.{Prepared, short_table, short_letters, outcome_of_prepared, LooksAhead, LeavesTable, LeavesLetters, as_number}
use Rattle.prepare.specs.Preparing.{Prepares, CountsTo}
use Rattle.needs.specs.Needs.{TellsNeeds, short_needs, entries, Filled, NeedsOf}
use Rattle.needs.proofs.Theorems.{looked}
use Rattle.pages.specs.Page.{page}
use Rattle.pages.specs.Paging.{PageGives, PageOf}
use Rattle.numbers.specs.Numbers.{Numbers, no_room, PassesOn, answers, refuses}
use Rattle.plan_calls.specs.Promises.{claim_of, PassesPrepared, PassesCount, PassesCheck, PassesNeeds, PassesPage}
use Rattle.plan_calls.specs.Theorems.{AnswersAhead}
use Rattle.plan_calls.specs.Parties.{SameCalls, PartyAlone}
use Rattle.plan_calls.proofs.Theorems.{looked_ahead}

-- FROM THE ONE TO THE OTHER

record Over (A B : Asked) : Type 0 where
  preparing : (r : ℕ) (old table old' letters old'' evidence : List ℕ) → PassesPrepared A r old table old' letters old'' evidence
      → PassesPrepared B r old table old' letters old'' evidence
  counting : (r : ℕ) (old letters old' evidence : List ℕ) → PassesCount A r old letters old' evidence
      → PassesCount B r old letters old' evidence
  checking : (r : ℕ) (claim letters : List ℕ) → PassesCheck A claim letters r → PassesCheck B claim letters r
  needing : (r : ℕ) (old needs : List ℕ) → PassesNeeds A r old needs → PassesNeeds B r old needs
  paging : (r : ℕ) (old out old' count : List ℕ) → PassesPage A r old out old' count → PassesPage B r old out old' count

module _ (A B : Asked) (P : Proper A) (Q : Proper B) (e : refusal_of A ≡ refusal_of B) (m : A.means ≡ B.means) where
  with_9 : (F : (Bool → ℕ) → Semiautomaton → Type 0) → F (refusal_with A) A.means → F (refusal_with B) B.means
  with_9 F x =
      subst (F (refusal_with B)) m (subst (λ (f : Bool → ℕ). F f A.means) (fun_ext (λ b. refused_same A B P Q e b)) x)

  without_9 : (F : ℕ → Semiautomaton → Type 0) → F (refusal_of A) A.means → F (refusal_of B) B.means
  without_9 F x = subst (F (refusal_of B)) m (subst (λ (r : ℕ). F r A.means) e x)

  same_room : no_room A.checks ≡ no_room B.checks
  unfolding refusal_with
  same_room = ap refusing (refused_same A B P Q e true)

  passes_over : {X : Type 0} (numbers : X → Numbers) (room : ℕ) (F G : X → Type 0) → ((a : X) → F a → G a) → (Kept : Type 0) {r : ℕ}
      {old more : List ℕ} → PassesOn numbers room A.checks F Kept r old more → PassesOn numbers room B.checks G Kept r old more
  passes_over numbers room F G over Kept (answers h a f p) = answers h a (over a f) p
  passes_over numbers room F G over Kept (refuses h d k l) = refuses h (d ∙ same_room) k l

  prepares_over : (a : Prepared) (old table old' letters : List ℕ) → Prepares A a old table old' letters
      → Prepares B a old table old' letters
  prepares_over a old table old' letters = with_9 (λ f S.
      LooksAhead (f (short_table S (length old) || short_letters S (length old'))) S (outcome_of_prepared a)
      × LeavesTable (contents S) a old table
      × LeavesLetters S a old' letters)

  counts_over : (a : Prepared) (old letters : List ℕ) → CountsTo A a old letters → CountsTo B a old letters
  counts_over a old letters =
      with_9 (λ f S. LooksAhead (f (short_letters S (length old))) S (outcome_of_prepared a) × LeavesLetters S a old letters)

  checks_over : (claim letters : List ℕ) (a : Result Bool Refusal) → Checks A (claim_of claim) letters a → Checks B (claim_of claim) letters a
  checks_over claim letters a =
      without_9 (λ r S. Gives r Unit (λ yes. (yes ≡ true) ↔ TrueOf S (claim_of claim) letters) (outcome_of a))

  needs_over : (a : Result ℕ Refusal) (old needs : List ℕ) → NeedsOf A a old needs → NeedsOf B a old needs
  needs_over a old needs = with_9 (λ f S.
      Gives (f (short_needs S (length old))) (needs ≡ old) (λ count. (count ≡ entries S) × Filled S old needs) (outcome_of a))

  page_over : (a : Result ℕ Refusal) (old out : List ℕ) → PageOf A a old out → PageOf B a old out
  page_over a old out p = record {
    numbers = p.numbers;
    tells = λ w. subst (λ (S : Semiautomaton). TellsNeeds S p.numbers) m (p.tells (e ∙ w));
    gives = with_9 (λ f S.
        let text = page S p.numbers in PageGives (f (ltb (length old) (length text))) text a old out) p.gives;
  }

  over : Over A B
  over = record {
    preparing = λ r old table old' letters old'' evidence.
        passes_over _ 6 _ _ (λ a. prepares_over a old table old' letters) ((table ≡ old) × (letters ≡ old'));
    counting = λ r old letters old' evidence. passes_over _ 6 _ _ (λ a. counts_over a old letters) (letters ≡ old);
    checking = λ r claim letters p.
        record { answer = p.answer; meets = checks_over claim letters p.answer p.meets; passed = p.passed; short = p.short };
    needing = λ r old needs p. record { answer = p.answer; meets = needs_over p.answer old needs p.meets; passed = p.passed };
    paging = λ r old out old' count. passes_over _ 1 _ _ (λ a. page_over a old out) (out ≡ old);
  }

-- ONE NUMBER

one_outcome : (S : Semiautomaton) (o p : Outcome ℕ) → LooksAhead 0 S o → LooksAhead 0 S p → o ≡ p
one_outcome S (answered j) (answered k) (_, a) (_, b) = ap answered (lookahead_unique a b)
one_outcome S (answered j) (refused r) (_, a) (inl (z, n)) = absurd (n z)
one_outcome S (answered j) (refused r) (_, a) (inr (_, _, u)) = absurd (lookahead_predicts a u)
one_outcome S (refused r) (answered k) (inl (z, n)) _ = absurd (n z)
one_outcome S (refused r) (answered k) (inr (_, _, u)) (_, a) = absurd (lookahead_predicts a u)
one_outcome S (refused r) (refused s) (inl (z, n)) _ = absurd (n z)
one_outcome S (refused r) (refused s) (inr _) (inl (z, n)) = absurd (n z)
one_outcome S (refused r) (refused s) (inr (_, a, _)) (inr (_, b, _)) = ap refused (a ∙ sym b)

module _ (A B : Asked) (P : Proper A) (Q : Proper B) (w : Passes A) (v : Passes B) (m : A.means ≡ B.means) where
  one_number : (a b : ℕ) → AnswersAhead A a → AnswersAhead B b → a ≡ b
  one_number a b f g =
      let (o, looks, is) = looked_ahead A P f in
      let (o', looks', is') = looked_ahead B Q g in
      let l : LooksAhead 0 B.means o = subst (λ (S : Semiautomaton). LooksAhead 0 S o) m (looked A P w o looks) in
      is ∙ ap as_number (one_outcome B.means o o' l (looked B Q v o' looks')) ∙ sym is'

  -- BOTH WAYS

  pub same_calls : SameCalls A B
  same_calls =
      let e : refusal_of A ≡ refusal_of B = w ∙ sym v in
      let there = over A B P Q e m in
      let back = over B A Q P (sym e) (sym m) in
      record {
        preparing = λ r old table old' letters old'' evidence.
            (there.preparing r old table old' letters old'' evidence, back.preparing r old table old' letters old'' evidence);
        counting = λ r old letters old' evidence. (there.counting r old letters old' evidence, back.counting r old letters old' evidence);
        checking = λ r claim letters. (there.checking r claim letters, back.checking r claim letters);
        needing = λ r old needs. (there.needing r old needs, back.needing r old needs);
        paging = λ r old out old' count. (there.paging r old out old' count, back.paging r old out old' count);
        ahead = one_number;
      }

pub party_alone : PartyAlone
party_alone plan other party w well alone =
    same_calls (asked plan party) (asked other 0) (asked_proper plan party) (asked_proper other 0) w (asked_zero other ∙ well)
    (sym ((of-parties plan party).alone other alone))
