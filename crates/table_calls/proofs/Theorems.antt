-- The theorems of specs/Theorems.antt.
-- Assumes nothing.
use Rattle.std.specs.Prelude.{Result, Ok, Err}
use Prim.Native.Nat.{ℕ, ◌<◌}
use mathlib.Core.Bool.{Bool, true, false}
use mathlib.Core.Path.{refl}
use mathlib.Core.List.{List}
use native.Mathlib.Omega.{arith}
use lib.ListN.{length}
use Rattle.bitset.specs.Sets.{one_if}
use Rattle.refusals.specs.declared.Refusal.{Refusal}
use Rattle.walks.specs.declared.Gathered.{Gathered}
use Rattle.simulate.specs.declared.Verdict.{Verdict}
use Rattle.simulate.specs.Stepping.{step_checks, step_refusal, StepsTo}
use Rattle.simulate.proofs.Theorems.{few_rounds}
use Rattle.simulate.specs.Walking.{walk_checks, walk_refusal, Walks}
use Rattle.simulate.specs.Verdicts.{verdict_checks, verdict_refusal, Judges}
use Rattle.numbers.specs.Numbers.{Number, value}
use Rattle.numbers.proofs.Answering.{refused_number, gives_number}
use Rattle.table_calls.specs.Promises.{of_stepped, of_walked, of_judged}
use Rattle.table_calls.specs.Theorems.{Theorems}

stepped_number : (table : List ℕ) (set a : ℕ) (s : Result Gathered Refusal) → StepsTo table set a s → Number (of_stepped s).first
unfolding step_refusal
stepped_number table set a (Ok g) c = value (omega (arith, few_rounds table set a g c))
stepped_number table set a (Err r) (e, z, _) = refused_number (step_checks table set a) refl e z

walked_number : (table word old out : List ℕ) (a : Result ℕ Refusal) → Walks table word a old out → Number (of_walked a).first
unfolding walk_refusal
walked_number table word old out (Ok g) _ = value (omega arith)
walked_number table word old out (Err r) (e, z, _) =
    refused_number (walk_checks table word (length old)) refl e z

judged_number : (table : List ℕ) (q a : ℕ) (word : List ℕ) (j : Result Verdict Refusal) → Judges table q a word j → Number (of_judged j).first
unfolding verdict_refusal
judged_number table q a word (Ok v) _ = value (bit v.minimal)
  where
    bit : (b : Bool) → one_if b < 65536
    bit true = omega arith
    bit false = omega arith
judged_number table q a word (Err r) (e, z, _) = refused_number (verdict_checks table q a word) refl e z

pub theorems : (r : ℕ) → Theorems r
theorems r = record {
  stepping = λ table set letter old next. gives_number refl (stepped_number table set letter);
  walking = λ table word old sets old' length. gives_number refl (walked_number table word old sets);
  judging = λ table state letter word old sets. gives_number refl (judged_number table state letter word);
}
