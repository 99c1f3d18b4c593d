-- What is loaded, handed on with its sets: a law for all who load a plan.
-- Assumes nothing.
use mathlib.Core.Path.{◌≡◌}
use mathlib.Core.List.{List}
use Prim.Native.Nat.{ℕ}
use Rattle.semiautomata.specs.Semiautomaton.{Semiautomaton}
use Rattle.semiautomata.specs.Means.{means}
use Rattle.semiautomata.specs.declared.successors.Successors.{Successors}
use Rattle.plan.specs.declared.Loaded.{Loaded}
use Rattle.plan.specs.Loading.{Holds}

-- it means what the sets hold
pub over_means : {S : Semiautomaton} {l : Loaded} {sets : List ℕ} → Holds S l sets → (x : Successors)
    → (x.n ≡ l.counts.n) × (x.m ≡ l.counts.m) × (x.starts ≡ l.starts) × (x.sets.now ≡ sets) → means x ≡ S
over_means h x (n, m, starts, sets) = rw (n, m, starts, sets) h.means
