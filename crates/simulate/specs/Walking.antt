-- Whole walks (document 01, Walks): refusals 8, 9, 12 and 13 in order, or g and the possible states at positions 0 to g.
-- Assumes nothing.
use Rattle.std.specs.Prelude.{ℕ, suc, not, ◌≡◌, List, [], ◌∷◌, ◌++◌, map, ltb, length, take, drop, Result}
use Rattle.bitset.specs.Sets.{any}
use Rattle.bitset.specs.Numbers.{set_of}
use Rattle.semiautomata.specs.Semiautomaton.{Semiautomaton}
use Rattle.refusals.specs.Checks.{Check, first_of, short}
use Rattle.refusals.specs.Outcomes.{Gives}
use Rattle.refusals.specs.Named.{outcome_of}
use Rattle.refusals.specs.declared.Refusal.{Refusal}
use Rattle.semiautomata.specs.Lists.{range}
use Rattle.semiautomata.specs.Walks.{possible, longest}
use Rattle.walks.specs.Walking.{letter_off}
use Rattle.table.specs.Table.{states_of, letters_of, table_meaning, table_check}

abbrev pub walk_checks : List ℕ → List ℕ → ℕ → List Check
walk_checks table word out =
    table_check table
    ∷ short (ltb out (suc (length word)))
    ∷ record { number = 12; applies = letter_off (letters_of table) word }
    ∷ record { number = 13; applies = not (any (states_of table) (table_meaning table).initial) }
    ∷ []

unfoldable pub walk_refusal : List ℕ → List ℕ → ℕ → ℕ
walk_refusal table word out = first_of (walk_checks table word out)

-- The possible states at positions 0 to g of a whole walk, as numbers, g being the length of its longest beginning on the plan.
unfoldable pub traced : Semiautomaton → List ℕ → List ℕ
traced S word =
    let g = longest S word in map (λ i. set_of S.n (possible S S.initial (take g word) i)) (range 0 (suc g))

-- What a whole walk answers, g, and writes: these sets, at the front of a buffer that keeps its rest.
abbrev pub Traces : List ℕ → List ℕ → List ℕ → List ℕ → ℕ → Type 0
Traces table word old out g = (g ≡ longest (table_meaning table) word) × (out ≡ traced (table_meaning table) word ++ drop (suc g) old)

-- What a whole walk gives; a refusal writes nothing.
abbrev pub Walks : List ℕ → List ℕ → Result ℕ Refusal → List ℕ → List ℕ → Type 0
Walks table word a old out = Gives (walk_refusal table word (length old)) (out ≡ old) (Traces table word old out) (outcome_of a)
