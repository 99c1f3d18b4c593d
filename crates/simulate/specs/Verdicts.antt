-- The verdict on a look-ahead word (document 01; 003, Definition 2): refusals 8 and 12, or what the word tells of a critical set.
-- Assumes nothing.
use Rattle.std.specs.Prelude.{ℕ, ◌^◌, ◌<◌, Bool, true, false, ◌||◌, ◌↔◌, ◌≡◌, List, [], ◌∷◌, Result}
use Rattle.std.proofs.Math.Option.{Option, some, none}
use Rattle.bitset.specs.Numbers.{has}
use Rattle.semiautomata.specs.Semiautomaton.{Semiautomaton}
use Rattle.semiautomata.specs.Predictability.{Critical, member, named}
use Rattle.semiautomata.specs.Selectors.{Survives, MinimalSelector, MaximalNonselector}
use Rattle.refusals.specs.Checks.{Check, first_of}
use Rattle.refusals.specs.Outcomes.{Gives}
use Rattle.refusals.specs.Named.{outcome_of}
use Rattle.refusals.specs.declared.Refusal.{Refusal}
use Rattle.table.specs.Table.{letters_of, table_meaning, table_check}
use Rattle.walks.specs.Walking.{letter_off}
use Rattle.simulate.specs.declared.Verdict.{Verdict}

-- 12: the numbers name no critical set, or some letter of the word is not below m.
abbrev pub unnamed : Option Critical → Bool
unnamed (some T) = false
unnamed none = true

abbrev pub verdict_checks : List ℕ → ℕ → ℕ → List ℕ → List Check
verdict_checks table q a word =
    table_check table
    ∷ record { number = 12; applies = unnamed (named (table_meaning table) q a) || letter_off (letters_of table) word }
    ∷ []

unfoldable pub verdict_refusal : List ℕ → ℕ → ℕ → List ℕ → ℕ
verdict_refusal table q a word = first_of (verdict_checks table q a word)

-- The number stands for the set of those below n of which P holds.
pub record Stands (n : ℕ) (P : ℕ → Type 0) (set : ℕ) : Type 0 where
  pub fits : set < 2 ^ n
  pub is : (x : ℕ) → (has set x ≡ true) ↔ P x

-- The states of T that can walk the word, whether it is a minimal selector in T, and the states of which it is a maximal nonselector.
pub record Tells (S : Semiautomaton) (T : Critical) (word : List ℕ) (v : Verdict) : Type 0 where
  pub survivors : Stands S.n (Survives S (member S T) word) v.survivors
  pub minimal : (v.minimal ≡ true) ↔ MinimalSelector S (member S T) word
  pub nonselected : Stands S.n (MaximalNonselector S (member S T) word) v.nonselected

-- The verdict on a word for the critical set that two numbers name.
abbrev pub TellsOf : List ℕ → ℕ → ℕ → List ℕ → Verdict → Type 0
TellsOf table q a word v = (T : Critical) → named (table_meaning table) q a ≡ some T → Tells (table_meaning table) T word v

abbrev pub Judges : List ℕ → ℕ → ℕ → List ℕ → Result Verdict Refusal → Type 0
Judges table q a word r = Gives (verdict_refusal table q a word) Unit (TellsOf table q a word) (outcome_of r)
