-- The page of successor sets: what is promised where no check on plan bytes applies.
-- Assumes nothing.
use Rattle.std.specs.Prelude.{ℕ, cond, List, ltb, length, Result}
use Rattle.semiautomata.specs.Semiautomaton.{Semiautomaton}
use Rattle.needs.specs.Needs.{TellsNeeds}
use Rattle.refusals.specs.declared.Refusal.{Refusal}
use Rattle.pages.specs.Page.{page}
use Rattle.pages.specs.Paging.{PageGives}

pub record PageBy (S : Semiautomaton) (a : Result ℕ Refusal) (old out : List ℕ) : Type 0 where
  pub numbers : List ℕ
  pub tells : TellsNeeds S numbers
  pub gives : let text = page S numbers in PageGives (cond (ltb (length old) (length text)) 9 0) text a old out
