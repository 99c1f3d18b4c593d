-- What loading promises: the refusal, or the counts and the successor sets of what is meant; and what looking at the parts needs.
-- Assumes nothing.
use Rattle.std.specs.Prelude.{◌+◌, ◌*◌, ◌^◌, ◌≤◌, ◌<◌, ◌≡◌, List, ℕ, length, Result, Ok, Err}
use Rattle.refusals.specs.Named.{number_of}
use Rattle.refusals.specs.declared.Refusal.{Refusal}
use Rattle.semiautomata.specs.Semiautomaton.{Semiautomaton}
use Rattle.semiautomata.specs.Successors.{successors, Fit}
use Rattle.plan.specs.declared.Loaded.{Loaded}
use Rattle.plan.specs.declared.Counts.{Counts}
use Rattle.plan.specs.Asked.{Asked, refusal_of, Passes}
use Rattle.semiautomata.specs.Sizes.{max_sets}
use Rattle.plan.specs.declared.Header.{Header}
use Rattle.plan.specs.Bytes.{line_width}

-- What looking at the parts needs of refusals 1 to 4: few states and letters, and parts that lie within the bytes.
pub record Sound (plan : List ℕ) (h : Header) : Type 0 where
  pub states : h.n ≤ 64
  pub letters : h.m ≤ 32
  pub starts_end : h.starts + h.p ≤ length plan
  pub lines_end : h.lines + line_width h.edition * h.e ≤ length plan

-- What is loaded and its sets hold S: its counts, its initial states and its successor sets.
pub record Holds (S : Semiautomaton) (l : Loaded) (sets : List ℕ) : Type 0 where
  pub means : successors l.counts.n l.counts.m l.starts sets ≡ S
  pub fit : Fit l.counts.n l.counts.m sets
  pub starts_fit : l.starts < 2 ^ l.counts.n

-- What loading answers and leaves in the lent sets: the first check that applies; where none does, what is meant, and the header's counts.
abbrev pub Loads : Asked → Counts → List ℕ → Result Loaded Refusal → Type 0
Loads A counts sets (Err r) = number_of r ≡ refusal_of A
Loads A counts sets (Ok l) = Passes A × Holds A.means l sets × (counts ≡ l.counts) × (length sets ≡ max_sets)
