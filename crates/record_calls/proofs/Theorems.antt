-- The theorems of specs/Theorems.antt.
-- Assumes nothing.
use Rattle.std.specs.Prelude.{Some, Ok}
use Prim.Native.Nat.{ℕ}
use mathlib.Core.Path.{refl}
use Rattle.numbers.proofs.Answering.{gives_number}
use Rattle.record_calls.specs.Theorems.{Theorems}
use Rattle.record_calls.proofs.Answering.{opened_small, fed_small, opened_number, fed_number, ended_number}

pub theorems : (r : ℕ) → Theorems r
theorems r = record {
  opening = λ table old bytes old' position. gives_number refl (λ a. opened_number table old a bytes);
  feeding = λ table letter old bytes old' position. gives_number refl (λ a. fed_number table old letter a bytes);
  ending = λ table bytes old sets p. rw p.passed.answered (ended_number table bytes old sets p.answer p.meets);
  opened_below = λ table bytes x. opened_small table bytes (Ok (Some x));
  fed_below = λ table bytes letter x. fed_small table bytes letter (Ok (Some x));
}
