-- What the parts of a decision promise: the base as a number, and what is due once a letter is read behind the held ones.
-- Assumes nothing.
use Rattle.std.specs.Prelude.{ℕ, suc, ◌-◌, ◌<◌, cond, ◌≡◌, List, [], ◌∷◌, ◌++◌, ltb, length}
use Rattle.bitset.specs.Sets.{single}
use Rattle.bitset.specs.Numbers.{has, set_of}
use Rattle.semiautomata.specs.Semiautomaton.{Semiautomaton}
use Rattle.semiautomata.specs.Walks.{reach, possible}
use Rattle.walks.specs.Walking.{Letters}

-- The base as a number.
unfoldable pub base_set : ℕ → ℕ → ℕ → ℕ → ℕ
base_set k starts fed last = cond (ltb fed k) starts (set_of 64 (single last))

-- A letter is read behind the held ones, walked from the base as a number, and leads to some states.
abbrev pub ReadOn : Semiautomaton → ℕ → List ℕ → ℕ → ℕ → Type 0
ReadOn S base held letter next =
    Letters S.m held × (letter < S.m) × ¬ (next ≡ 0) × (next ≡ set_of S.n (reach S (has base) (held ++ (letter ∷ []))))

-- The possible states then at the position that k letters follow.
abbrev pub due_after : Semiautomaton → ℕ → ℕ → List ℕ → ℕ → ℕ
due_after S k base held letter = set_of S.n (possible S (has base) (held ++ (letter ∷ [])) (suc (length held) - k))
