-- What each call on a table promises for C: some answer meets the promise of the call that it stands for, and its numbers are passed on.
-- Without room for further values: 8 or 9.
-- Assumes nothing.
use Rattle.std.specs.Prelude.{ℕ, ◌≡◌, List, [], ◌∷◌, Result}
use Rattle.bitset.specs.Sets.{one_if}
use Rattle.table.specs.Table.{table_check}
use Rattle.refusals.specs.Named.{outcome_of}
use Rattle.refusals.specs.declared.Refusal.{Refusal}
use Rattle.walks.specs.declared.Gathered.{Gathered}
use Rattle.simulate.specs.declared.Verdict.{Verdict}
use Rattle.simulate.specs.Stepping.{StepsTo}
use Rattle.simulate.specs.Walking.{Walks}
use Rattle.simulate.specs.Verdicts.{Judges}
use Rattle.numbers.specs.Numbers.{Numbers, valued, in_numbers, PassesOn}

-- THE NUMBERS OF EACH OUTCOME

-- The rounds; the set led to.
abbrev pub of_stepped : Result Gathered Refusal → Numbers
of_stepped a = in_numbers (λ g. valued g.rounds (g.set ∷ [])) (outcome_of a)

-- 0; g.
abbrev pub of_walked : Result ℕ Refusal → Numbers
of_walked a = in_numbers (λ g. valued 0 (g ∷ [])) (outcome_of a)

-- 1 for a minimal selector, else 0; the states that can walk the word, and those of which it is a maximal nonselector.
abbrev pub of_judged : Result Verdict Refusal → Numbers
of_judged a = in_numbers (λ v. valued (one_if v.minimal) (v.survivors ∷ v.nonselected ∷ [])) (outcome_of a)

-- THE PROMISES

abbrev pub PassesStep : List ℕ → ℕ → ℕ → ℕ → List ℕ → List ℕ → Type 0
PassesStep table set letter r old next = PassesOn of_stepped 1 (table_check table ∷ []) (StepsTo table set letter) Unit r old next

abbrev pub PassesWalk : List ℕ → List ℕ → ℕ → List ℕ → List ℕ → List ℕ → List ℕ → Type 0
PassesWalk table word r old sets old' more =
    PassesOn of_walked 1 (table_check table ∷ []) (λ a. Walks table word a old sets) (sets ≡ old) r old' more

abbrev pub PassesVerdict : List ℕ → ℕ → ℕ → List ℕ → ℕ → List ℕ → List ℕ → Type 0
PassesVerdict table state letter word r old sets =
    PassesOn of_judged 2 (table_check table ∷ []) (Judges table state letter word) Unit r old sets
