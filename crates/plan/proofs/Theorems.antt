-- The theorems of specs/Theorems.antt.
-- Assumes nothing.
use mathlib.Core.List.{List}
use Prim.Native.Nat.{ℕ}
use Rattle.plan.specs.Theorems.{Theorems}
use Rattle.plan.proofs.Refusals.{well_formed_sized, unnamed_proper, asked_proper}

pub theorems : (plan : List ℕ) → Theorems plan
theorems plan = record { sized = well_formed_sized plan; proper = asked_proper plan; proper_unnamed = unnamed_proper plan }
