-- The numbers of answers about a record.
-- Assumes nothing.
use Rattle.std.specs.Prelude.{Some, None, Ok, Err}
use Rattle.std.specs.Prelude as prelude
use Prim.Native.Nat.{ℕ, suc, ◌-◌, ◌≤◌, ◌<◌}
use mathlib.Core.Bool.{Bool, true, false, cond}
use mathlib.Core.Option.{Option, some, none}
use mathlib.Core.Path.{◌≡◌, refl, sym, subst}
use mathlib.Core.Logic.{inl, inr}
use mathlib.Core.List.{List, [], ◌∷◌, ◌++◌}
use native.Mathlib.Omega.{arith}
use lib.Dec.{ltb}
use lib.ListN.{length}
use Rattle.bitset.proofs.Tests.{decided}
use Rattle.semiautomata.specs.Semiautomaton.{Semiautomaton}
use Rattle.streaming.specs.Calls.{Reply, refused, resolved, nothing, Result, checked}
use Rattle.refusals.specs.Checks.{Check, first_of, Numbered}
use Rattle.refusals.specs.Groups.{last_refusal}
use Rattle.streaming.specs.Streaming.{base, sole_at, resolve, settle, settled, unopened, open_checks, take_checks, settled_by}
use Rattle.refusals.proofs.First.{passed_first}
use Rattle.streaming.proofs.Calls.{Course, refuses as refuses-by, passes, course, among_numbered}
use Rattle.streaming.proofs.Streaming.{at_sole}
use Rattle.table.specs.Table.{states_of, lookahead_of, table_meaning, unfit, table_check}
use Rattle.table.proofs.Fitness.{fitting}
use Rattle.deciding.specs.Replies.{Answer, said}
use Rattle.refusals.specs.Named.{number_of}
use Rattle.refusals.specs.declared.Refusal.{Refusal}
use Rattle.deciding.specs.Deciding.{bytes_check}
use Rattle.predictor.specs.Calls.{record_check, opening_checks, letter_checks, onto, opened_on, fed_on}
use Rattle.predictor.specs.Calls.{Opens, Feeds, end_checks, end_refusal, Ends}
use Rattle.records.specs.Bytes.{decode}
use Rattle.numbers.specs.Numbers.{Number, value, refusal as refusal-number}
use Rattle.numbers.proofs.Answering.{refused_number}
use Rattle.record_calls.specs.Promises.{of_answer, of_ended}
use Rattle.record_calls.proofs.Endings.{few_ended}

-- ENDINGS

pub ended_number : (table bytes old out : List ℕ) (a : prelude.Result ℕ Refusal) → Ends table bytes a old out → Number (of_ended a).first
unfolding end_refusal
ended_number table bytes old out (Ok c) (e, (is, _)) = let h = few_ended table bytes (length old) e in value (omega arith)
ended_number table bytes old out (Err r) (e, z, _) =
    refused_number (end_checks table bytes (length old)) refl e z

-- REPLIES

-- a refusal's number, or one of n states, at most 64
abbrev pub Small : ℕ → Reply → Type 0
Small n (refused r) = (1 ≤ r) × (r ≤ last_refusal)
Small n (resolved i x) = (x < n) × (n ≤ 64)
Small n nothing = Unit {0}

answer_number : (n : ℕ) (a : Answer) → Small n (said a) → Number (of_answer a).first
answer_number n (Ok (Some x)) (l, h) = value (omega arith)
answer_number n (Ok None) _ = value (omega arith)
answer_number n (Err r) (l, h) = refusal-number (number_of r) l h refl

-- the first check that applies, or what is given where none does
checked_small : (n : ℕ) (A : Type 0) (cs : List Check) (state : A) (done : Result A) → Numbered last_refusal cs
    → (first_of cs ≡ 0 → Small n done.reply) → Small n (checked cs state done).reply
checked_small n A cs state done m f = go (checked cs state done) (course cs state done)
  where
    go : (s : Result A) → Course cs state done s → Small n s.reply
    go s (refuses-by r a) = among_numbered last_refusal r cs m a
    go s (passes p) = f (passed_first cs p)

settle_small : (S : Semiautomaton) → S.n ≤ 64 → (k : ℕ) (X : ℕ → Bool) (fed : ℕ) (w : List ℕ) → Small S.n (settle S k X fed w)
unfolding settle
settle_small S h k X fed w = due (ltb fed k)
  where
    sole : (o : Option ℕ) → sole_at S X w (length w - k) ≡ o → Small S.n (resolve (fed - k) o)
    sole (some x) e = ((at_sole S X w (length w - k) x e).below, h)
    sole none e = (omega arith, omega arith)

    due : (b : Bool) → Small S.n (cond b nothing (resolve (fed - k) (sole_at S X w (length w - k))))
    due true = tt
    due false = sole (sole_at S X w (length w - k)) refl

module _ (table bytes : List ℕ) where
  abbrev S : Semiautomaton
  S = table_meaning table

  abbrev k : ℕ
  k = lookahead_of table

  abbrev n : ℕ
  n = states_of table

  -- where 8 does not apply
  settled_small : (cs : List Check) → first_of (table_check table ∷ cs) ≡ 0 → (X : ℕ → Bool) (fed : ℕ) (w : List ℕ)
      → Small n (settle S k X fed w)
  settled_small cs e = elim (decided (unfit table)) [
    | inl u ↦ let z : ◌≡◌ {A = ℕ} 8 0 = rw u at e in absurd (omega arith)
    | inr u ↦ settle_small S (fitting table u).states k
  ]

  pub opened_small : (a : Answer) (left : List ℕ) → Opens table bytes a left → Small n (said a)
  unfolding opened_on
  opened_small a left (e, _) = subst (Small n) (sym e)
      (checked_small n _ (opening_checks table bytes) bytes (onto k bytes (settled S k S.initial unopened 0 [])) refl λ z.
      settled_small (record_check table bytes ∷ open_checks S) z S.initial 0 [])

  pub fed_small : (letter : ℕ) (a : Answer) (left : List ℕ) → Feeds table bytes letter a left → Small n (said a)
  unfolding fed_on
  fed_small letter a left (e, _) =
      let r = decode bytes in
      subst (Small n) (sym e)
      (checked_small n _ (letter_checks table bytes letter) bytes (onto k bytes (settled_by S k r letter)) refl λ z.
      settled_small (record_check table bytes ∷ bytes_check S k bytes ∷ take_checks S k r letter) z (base S k r) (suc r.fed)
      (r.held ++ (letter ∷ [])))

  pub opened_number : (a : Answer) (left : List ℕ) → Opens table bytes a left → Number (of_answer a).first
  opened_number a left o = answer_number n a (opened_small a left o)

  pub fed_number : (letter : ℕ) (a : Answer) (left : List ℕ) → Feeds table bytes letter a left → Number (of_answer a).first
  fed_number letter a left f = answer_number n a (fed_small letter a left f)
