-- What follows of the promises on tables for C: whatever a call is lent, it answers a value below 65,536, or 65,536 plus the number of a
-- refusal. proofs/Theorems.antt has the proofs.
-- Assumes nothing.
use Rattle.std.specs.Prelude.{ℕ, List}
use Rattle.numbers.specs.Numbers.{Number}
use Rattle.table_calls.specs.Promises.{PassesStep, PassesWalk, PassesVerdict}

pub record Theorems (r : ℕ) : Type 0 where
  pub stepping : (table : List ℕ) (set letter : ℕ) (old next : List ℕ) → PassesStep table set letter r old next → Number r
  pub walking : (table word old sets old' length : List ℕ) → PassesWalk table word r old sets old' length → Number r
  pub judging : (table : List ℕ) (state letter : ℕ) (word old sets : List ℕ) → PassesVerdict table state letter word r old sets → Number r
