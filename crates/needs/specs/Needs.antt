-- The need of each critical set by itself (document 02, W-205): what each number says, in which order they stand, the largest of them;
-- and the call's refusals in order, its answer and what it writes.
-- Assumes nothing.
use Rattle.std.specs.Prelude.{ℕ, ◌+◌, ◌*◌, ◌<◌, Bool, true, cond, ◌↔◌, ◌≡◌, List, [], ◌∷◌, eqb, ltb, length, get_or, Result}
use Rattle.semiautomata.specs.Semiautomaton.{Semiautomaton}
use Rattle.semiautomata.specs.Predictability.{Critical, initial, fork, member, Counts, SetPredictable, Need}
use Rattle.semiautomata.specs.Sizes.{endless, unmeasured}
use Rattle.semiautomata.specs.Successors.{place}
use Rattle.refusals.specs.Outcomes.{Gives}
use Rattle.slices.specs.Copying.{at_front}
use Rattle.plan.specs.Asked.{Asked, refusal_with}
use Rattle.refusals.specs.Named.{outcome_of}
use Rattle.refusals.specs.declared.Refusal.{Refusal}

-- WHAT A NUMBER SAYS

-- The critical set counts (W-202) and is not empty.
abbrev pub Measured : Semiautomaton → Critical → Type 0
Measured S T = Counts S T × ((s : ℕ) × (member S T s ≡ true))

-- No number of letters decides between the states of T.
abbrev pub NoNeed : Semiautomaton → Critical → Type 0
NoNeed S T = (k : ℕ) → ¬ SetPredictable S (member S T) k

-- 65,534 exactly if T is empty or doesn't count, 65,535 exactly if it counts, is not empty and has no need; any other number is the need of
-- such a set.
pub record Says (S : Semiautomaton) (T : Critical) (v : ℕ) : Type 0 where
  pub unmeasured_is : (v ≡ unmeasured) ↔ ¬ Measured S T
  pub endless_is : (v ≡ endless) ↔ (Measured S T × NoNeed S T)
  pub need_is : ¬ (v ≡ unmeasured) → ¬ (v ≡ endless) → Measured S T × Need S (member S T) v

-- THE ORDER: first the initial states, then state by state and letter by letter.

-- T is a critical set of S.
abbrev pub Of : Semiautomaton → Critical → Type 0
Of S initial = Unit {0}
Of S (fork q a) = (q < S.n) × (a < S.m)

-- The place of its number.
abbrev pub place_of : Semiautomaton → Critical → ℕ
place_of S initial = 0
place_of S (fork q a) = place S.m q a + 1

-- How many numbers there are.
abbrev pub entries : Semiautomaton → ℕ
entries S = S.n * S.m + 1

-- The numbers tell the need of each critical set.
pub record TellsNeeds (S : Semiautomaton) (numbers : List ℕ) : Type 0 where
  pub long : length numbers ≡ entries S
  pub says : (T : Critical) → Of S T → Says S T (get_or numbers (place_of S T) 0)

-- The larger of two numbers, and the largest of the entries other than 65,534, 0 if there is no such entry.
abbrev pub larger : ℕ → ℕ → ℕ
larger v w = cond (ltb v w) w v

unfoldable pub largest : List ℕ → ℕ
largest [] = 0
largest (v ∷ vs) = cond (eqb v unmeasured) (largest vs) (larger v (largest vs))

-- THE CALL

-- 9: fewer numbers are lent than there are critical sets.
abbrev pub short_needs : Semiautomaton → ℕ → Bool
short_needs S size = ltb size (entries S)

-- The first of what is asked and then 9 that applies with so many numbers lent, 0 if none does.
abbrev pub needs_refusal : Asked → ℕ → ℕ
needs_refusal A size = refusal_with A (short_needs A.means size)

-- The numbers that tell the needs stand at the front of the lent ones, which keep their rest.
pub record Filled (S : Semiautomaton) (old needs : List ℕ) : Type 0 where
  pub numbers : List ℕ
  pub tells : TellsNeeds S numbers
  pub is : needs ≡ at_front numbers old

-- What the call gives: how many numbers are written.
abbrev pub NeedsOf : Asked → Result ℕ Refusal → List ℕ → List ℕ → Type 0
NeedsOf A a old needs =
    Gives (needs_refusal A (length old)) (needs ≡ old) (λ count. (count ≡ entries A.means) × Filled A.means old needs)
    (outcome_of a)
