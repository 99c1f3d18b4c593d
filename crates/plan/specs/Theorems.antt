-- What follows of a well-formed plan; proofs/Theorems.antt has the proofs.
-- Assumes nothing.
use Rattle.std.specs.Prelude.{List, ℕ}
use Rattle.semiautomata.specs.Sizes.{Sized}
use Rattle.plan.specs.Bytes.{meaning, unnamed, asked, WellFormed}
use Rattle.plan.specs.Asked.{Proper}

pub record Theorems (plan : List ℕ) : Type 0 where
  -- its counts of states and letters are in range, and nothing of what it means for a party lies outside them
  pub sized : WellFormed plan → (party : ℕ) → Sized (meaning plan party)
  -- what a call asks, naming a party or none, is what the calls count on
  pub proper : (party : ℕ) → Proper (asked plan party)
  pub proper_unnamed : Proper (unnamed plan)
