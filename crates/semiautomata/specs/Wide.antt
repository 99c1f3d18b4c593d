-- The wide rule: 003's own Definition 1, in which every critical set counts, whether or not a walk reaches it. So it was before W-202.
-- Assumes nothing.
use Rattle.std.specs.Prelude.{ℕ}
use Rattle.semiautomata.specs.Such.{LeastSuch}
use Rattle.semiautomata.specs.Semiautomaton.{Semiautomaton}
use Rattle.semiautomata.specs.Predictability.{Critical, member, SetPredictable}

-- Every critical set is k-predictable; an empty one is so anyway.
abbrev pub PredictableWide : Semiautomaton → ℕ → Type 0
PredictableWide S k = (T : Critical) → SetPredictable S (member S T) k

-- The least such k.
abbrev pub LookaheadWide : Semiautomaton → ℕ → Type 0
LookaheadWide S = LeastSuch (PredictableWide S)

-- There is none.
abbrev pub UnpredictableWide : Semiautomaton → Type 0
UnpredictableWide S = (k : ℕ) → ¬ PredictableWide S k
