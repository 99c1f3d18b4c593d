-- What an answer to a letter, and to opening, leaves of the bytes; and that a letter is taken only into bytes that are ready for it.
-- Assumes nothing.
use Prim.Native.Nat.{ℕ, suc, ◌-◌, ◌≤◌, ◌<◌}
use mathlib.Core.Bool.{Bool, true, false, cond, true≢false}
use mathlib.Core.Path.{◌≡◌, refl, sym, ap}
use mathlib.Core.List.{List, [], ◌∷◌, ◌++◌}
use native.Mathlib.Omega.{arith}
use lib.Seq.{drop-nil}
use borrow.Author.Tests.{leb-false, not-false}
use Rattle.bitset.proofs.Tests.{and_out}
use Rattle.semiautomata.specs.Semiautomaton.{Semiautomaton}
use Rattle.refusals.specs.Checks.{Check}
use Rattle.refusals.proofs.First.{Passed}
use Rattle.streaming.specs.Calls.{Reply, refused, Result, checked}
use Rattle.streaming.specs.Streaming.{Rec, latest, settle, after, unopened, open_checks, opened, settled_by}
use Rattle.std.specs.Prelude.{Option, None, Some, Ok}
use Rattle.streaming.specs.PlainWalk.{limit}
use Rattle.records.specs.Bytes.{decode, tidy}
use Rattle.records.specs.Taking.{taken_into, started_into}
use Rattle.deciding.specs.declared.Resolution.{Resolution}
use Rattle.deciding.specs.Replies.{said, is_refusal}
use Rattle.deciding.specs.Deciding.{decision_checks, decision}
use Rattle.predictor.specs.Calls.{written, onto}
use Rattle.predictor.specs.inner.Parts.{last_after}

-- a call with refusals leaves what its reply leaves, and one that is not refused has passed them all
module _ {A : Type 0} (state : A) (left : Reply → A) (h : (number : ℕ) → left (refused number) ≡ state) (v : Reply) where
  abbrev given : List Check → Result A
  given cs = checked cs state (record { reply = v; state = left v })

  pub checked_state : (cs : List Check) → (given cs).state ≡ left (given cs).reply
  checked_state [] = refl
  checked_state (c ∷ cs) = go c.applies (checked_state cs)
    where
      go : (b : Bool) → (given cs).state ≡ left (given cs).reply
          → let r = cond b (record { reply = refused c.number; state = state }) (given cs) in r.state ≡ left r.reply
      go true ih = sym (h c.number)
      go false ih = ih

  pub checked_passed : (cs : List Check) → is_refusal (given cs).reply ≡ false → Passed cs
  checked_passed [] e = tt
  checked_passed (c ∷ cs) e = go c.applies refl (checked_passed cs) e
    where
      go : (b : Bool) → c.applies ≡ b → (is_refusal (given cs).reply ≡ false → Passed cs)
          → is_refusal (cond b (record { reply = refused c.number; state = state }) (given cs)).reply ≡ false → Passed (c ∷ cs)
      go true e ih d = absurd (true≢false d)
      go false e ih d = (e, ih d)

-- A LETTER

-- what its reply leaves of the bytes
abbrev pub fed_into : ℕ → List ℕ → ℕ → Reply → List ℕ
fed_into k bytes a reply = written k bytes (after k (decode bytes) (suc (decode bytes).fed) ((decode bytes).held ++ (a ∷ [])) reply) reply

module _ (S : Semiautomaton) (k : ℕ) (bytes : List ℕ) (a : ℕ) where
  abbrev settling : Reply
  settling = (settled_by S k (decode bytes) a).reply

  abbrev left : Reply → Rec
  left = after k (decode bytes) (suc (decode bytes).fed) ((decode bytes).held ++ (a ∷ []))

  pub judged_state : (onto k bytes (decision S k bytes a)).state ≡ fed_into k bytes a (decision S k bytes a).reply
  unfolding decision
  judged_state =
      ap (λ (r : Rec). written k bytes r (decision S k bytes a).reply)
      (checked_state (decode bytes) left (λ _. refl) settling (decision_checks S k bytes a))

  -- it is taken only into a tidy record that is not full, and only if it is a byte
  pub judged_ready : S.m ≤ 32 → (o : Option Resolution) → said (Ok o) ≡ (decision S k bytes a).reply
      → (tidy k bytes ≡ true) × ((decode bytes).fed < limit) × (a < 256)
  unfolding decision
  judged_ready few o is =
      let (t, (l, (m, _))) = checked_passed (decode bytes) left (λ _. refl) settling (decision_checks S k bytes a) (rw is at (unrefused o)) in
      ((and_out _ _ (not-false _ t)).0, leb-false _ _ l, omega (arith, leb-false S.m a m))
    where
      unrefused : (o : Option Resolution) → is_refusal (said (Ok o)) ≡ false
      unrefused (Some r) = refl
      unrefused None = refl

pub fed_taken : (k : ℕ) (bytes : List ℕ) (a : ℕ) (o : Option Resolution)
    → taken_into k bytes a (last_after o (decode bytes).last) ≡ fed_into k bytes a (said (Ok o))
unfolding taken_into
fed_taken k bytes a (Some r) = refl
fed_taken k bytes a None = refl

-- OPENING

abbrev pub opened_into : ℕ → List ℕ → Reply → List ℕ
opened_into k bytes reply = written k bytes (after k unopened 0 [] reply) reply

module _ (S : Semiautomaton) (k : ℕ) where
  pub opened_state : (bytes : List ℕ) → (onto k bytes (opened S k)).state ≡ opened_into k bytes (opened S k).reply
  unfolding opened
  opened_state bytes =
      ap (λ (r : Rec). written k bytes r (opened S k).reply)
      (checked_state unopened (after k unopened 0 []) (λ _. refl) (settle S k S.initial 0 []) (open_checks S))

pub opened_taken : (k : ℕ) (bytes : List ℕ) (o : Option Resolution)
    → started_into k bytes (last_after o 255) ≡ opened_into k bytes (said (Ok o))
unfolding started_into
opened_taken k bytes (Some r) = let none : latest k [] ≡ [] = drop-nil (0 - k) in rw none
opened_taken k bytes None = let none : latest k [] ≡ [] = drop-nil (0 - k) in rw none
