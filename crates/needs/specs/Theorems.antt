-- What follows of the numbers that the call wrote, a line of plain words to each theorem; proofs/Theorems.antt has the proofs.
-- Assumes nothing.
use Rattle.std.specs.Prelude.{ℕ, ◌+◌, ◌-◌, ◌*◌, ◌/◌, ◌≤◌, ◌<◌, true, false, ◌⊎◌, ◌↔◌, ◌≡◌, List, length, get_or, take, Result, Ok, Err}
use Rattle.std.proofs.Math.Option.{some}
use Rattle.semiautomata.specs.Predictability.{Critical, member, named, Counts, Lookahead}
use Rattle.semiautomata.specs.Predictability as predictability
use Rattle.semiautomata.specs.Sizes.{max_sets, max_lookahead, endless, unmeasured}
use Rattle.refusals.specs.Outcomes.{Outcome, refused, answered}
use Rattle.plan.specs.Asked.{Asked, Passes, Proper}
use Rattle.table.specs.Table.{sets_from}
use Rattle.lookahead.specs.declared.Evidence.{Evidence}
use Rattle.prepare.specs.declared.Unprepared.TheVariants.{Unpredictable}
use Rattle.prepare.specs.Preparing.{Prepared, outcome_of_prepared, Prepares, CountsTo, Draws}
use Rattle.prepare.specs.Theorems.{EitherCall}
use Rattle.refusals.specs.Named.{outcome_of}
use Rattle.refusals.specs.declared.Refusal.{Refusal}
use Rattle.needs.specs.Needs.{Of, place_of, entries, TellsNeeds, largest, NeedsOf}

-- What preparing, the count call or the drawing program's entry answers, buffers lent to it being long enough.
abbrev pub LookedAhead : Asked → Outcome ℕ → Type 0
LookedAhead A o =
    ((a : Prepared) × (old : List ℕ) × (table : List ℕ) × (old' : List ℕ) × (letters : List ℕ) × (o ≡ outcome_of_prepared a)
    × (sets_from + A.means.n * A.means.m ≤ length old) × (A.means.n * A.means.n ≤ length old')
    × Prepares A a old table old' letters)
    ⊎ ((a : Prepared) × (old : List ℕ) × (letters : List ℕ) × (o ≡ outcome_of_prepared a) × (A.means.n * A.means.n ≤ length old)
    × CountsTo A a old letters)
    ⊎ ((r : ℕ) × (d : Draws A r) × (o ≡ d.outcome))

-- Some entry is 65,535.
abbrev pub SomeEndless : List ℕ → Type 0
SomeEndless numbers = (i : ℕ) × (i < length numbers) × (get_or numbers i 0 ≡ endless)

pub record Theorems (A : Asked) (numbers : List ℕ) : Type 0 where
  -- each critical set has an entry, no two have the same one, and each entry is that of a critical set; there are at most 2,049
  pub tells : TellsNeeds A.means numbers
  pub place_below : (T : Critical) → Of A.means T → place_of A.means T < length numbers
  pub place_unique : (T U : Critical) → Of A.means T → Of A.means U → place_of A.means T ≡ place_of A.means U → T ≡ U
  pub each_place : (i : ℕ) → i < length numbers → (T : Critical) × Of A.means T × (place_of A.means T ≡ i)
  pub few : length numbers ≤ max_sets + 1
  -- no other numbers tell the needs: each is fixed
  pub fixed : (others : List ℕ) → TellsNeeds A.means others → others ≡ numbers
  -- no need exceeds n (n - 1) / 2, nor 2,016, so the two marks are free
  pub bound : (i : ℕ) → i < length numbers → ¬ (get_or numbers i 0 ≡ unmeasured) → ¬ (get_or numbers i 0 ≡ endless)
      → get_or numbers i 0 ≤ A.means.n * (A.means.n - 1) / 2
  pub most : A.means.n * (A.means.n - 1) / 2 ≤ max_lookahead
  pub marks_free : (max_lookahead < unmeasured) × (max_lookahead < endless)
  -- a set that counts and has one state needs 0 letters; where there are no initial states, their number is 65,534, though they count
  pub alone : (T : Critical) → Of A.means T → Counts A.means T → (s : ℕ) → ((t : ℕ) → (member A.means T t ≡ true) ↔ (t ≡ s))
      → get_or numbers (place_of A.means T) 0 ≡ 0
  pub no_starts : ((s : ℕ) → A.means.initial s ≡ false) → get_or numbers 0 0 ≡ unmeasured
  -- if no entry is 65,535, the look-ahead is the largest of the entries other than 65,534, or 0 if there is no such entry; and some entry
  -- is 65,535 exactly if there is no look-ahead
  pub largest_is : ¬ SomeEndless numbers → Lookahead A.means (largest numbers)
  pub endless_is : SomeEndless numbers ↔ predictability.Unpredictable A.means
  -- so the calls answer that k, and 15
  pub largest_k : ¬ SomeEndless numbers → (o : Outcome ℕ) → LookedAhead A o → o ≡ answered (largest numbers)
  pub endless_15 : (o : Outcome ℕ) → LookedAhead A o → SomeEndless numbers ↔ (o ≡ refused 15)
  -- preparing and the count call being lent whatever: the same of k, and with 15 the set that the evidence names has 65,535
  pub ready_largest : (k : ℕ) (old letters : List ℕ) → EitherCall A (Ok k) old letters → ¬ SomeEndless numbers × (k ≡ largest numbers)
  pub evidence_endless : (e : Evidence) (old letters : List ℕ) → EitherCall A (Err (Unpredictable e)) old letters
      → (T : Critical) × (named A.means e.state e.letter ≡ some T) × Of A.means T
      × (get_or numbers (place_of A.means T) 0 ≡ endless)

pub record Calls (A : Asked) : Type 0 where
  -- where no check applies and enough numbers are lent, the call answers, whether there is a look-ahead or not
  pub answers : Passes A → (a : Result ℕ Refusal) (old needs : List ℕ) → entries A.means ≤ length old → NeedsOf A a old needs
      → outcome_of a ≡ answered (entries A.means)
  -- what stands at the front of the lent numbers is what the theorems above speak of
  pub written : (count : ℕ) (old needs : List ℕ) → NeedsOf A (Ok count) old needs → Theorems A (take count needs)
  -- two calls answer the same and leave the same
  pub same : (a b : Result ℕ Refusal) (old needs needs' : List ℕ) → NeedsOf A a old needs → NeedsOf A b old needs'
      → (outcome_of a ≡ outcome_of b) × (needs ≡ needs')

-- They hold of everything that a call may ask, so of all plan bytes (plan/specs/Theorems, `proper`).
abbrev pub Met : Type 0
Met = (A : Asked) → Proper A → Calls A
