-- One step (document 02, W-204): refusals 8 and 12, or the set that a letter leads to from a set, and its rounds; and steps along a word.
-- Assumes nothing.
use Rattle.std.specs.Prelude.{ℕ, ◌^◌, ◌||◌, ◌≡◌, List, [], ◌∷◌, leb, Result, Ok}
use Rattle.bitset.specs.Sets.{size}
use Rattle.bitset.specs.Numbers.{has, set_of}
use Rattle.semiautomata.specs.Semiautomaton.{Semiautomaton}
use Rattle.semiautomata.specs.Walks.{step}
use Rattle.refusals.specs.Checks.{Check, first_of}
use Rattle.refusals.specs.Outcomes.{Gives}
use Rattle.refusals.specs.Named.{outcome_of}
use Rattle.refusals.specs.declared.Refusal.{Refusal}
use Rattle.table.specs.Table.{states_of, letters_of, table_meaning, table_check}
use Rattle.walks.specs.declared.Gathered.{Gathered}

-- 12: the letter is not below m, or the set has a bit n or higher.
abbrev pub step_checks : List ℕ → ℕ → ℕ → List Check
step_checks table set a =
    table_check table
    ∷ record { number = 12; applies = leb (letters_of table) a || leb (2 ^ states_of table) set }
    ∷ []

unfoldable pub step_refusal : List ℕ → ℕ → ℕ → ℕ
step_refusal table set a = first_of (step_checks table set a)

-- The states that the letter leads to from the members of the set, and as many rounds as the set has members.
abbrev pub gathered_of : Semiautomaton → ℕ → ℕ → Gathered
gathered_of S set a = record { set = set_of S.n (step S (has set) a); rounds = size S.n (has set) }

-- What a step gives.
abbrev pub StepsTo : List ℕ → ℕ → ℕ → Result Gathered Refusal → Type 0
StepsTo table set a r = Gives (step_refusal table set a) Unit (λ g. g ≡ gathered_of (table_meaning table) set a) (outcome_of r)

-- Steps along a word from a set, each from where the one before led; `last` is where they lead, with no letter the set itself.
abbrev pub StepsAlong : List ℕ → ℕ → List ℕ → ℕ → Type 0
StepsAlong table set [] last = set ≡ last
StepsAlong table set (a ∷ w) last = (g : Gathered) × StepsTo table set a (Ok g) × StepsAlong table g.set w last
