-- What writing down the lifetimes of struck pairs promises.
-- Assumes nothing.
use Rattle.std.specs.Prelude.{ℕ, ◌<◌, Bool, cond, ◌≡◌, List, length}
use Rattle.semiautomata.specs.Sizes.{max_states}
use Rattle.pairs.specs.Lifetimes.{max_pairs, lifetime}

-- the pairs of P have this number, the others the one that they had
pub record Noted (P : ℕ → ℕ → Bool) (letters : ℕ) (old new : List ℕ) : Type 0 where
  pub long : length new ≡ length old
  pub is : (s t : ℕ) → t < max_states → lifetime new s t ≡ cond (P s t) letters (lifetime old s t)

-- .. where there are as many numbers as pairs; where not, they are kept
abbrev pub NotedWhere : (P : ℕ → ℕ → Bool) (letters : ℕ) (old new : List ℕ) → Type 0
NotedWhere P letters old new = (length old ≡ max_pairs → Noted P letters old new) × (¬ (length old ≡ max_pairs) → new ≡ old)
