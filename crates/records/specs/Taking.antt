-- A record's rules as tests of its numbers, and its bytes once it is begun or once a letter is taken.
-- Assumes nothing.
use Rattle.std.specs.Prelude.{ℕ, suc, ◌+◌, ◌-◌, min, Bool, cond, List, [], ◌∷◌, ◌++◌, eqb, ltb, leb, take, drop}
use Rattle.streaming.specs.PlainWalk.{limit}
use Rattle.streaming.specs.Streaming.{every, latest}
use Rattle.records.specs.Bytes.{held_from, decode, encode}

-- The rules of a record as tests of its numbers.
abbrev pub regular : ℕ → ℕ → ℕ → ℕ → ℕ → Bool
regular n k fed last held = every (leb fed limit ∷ eqb held (min fed k) ∷ cond (ltb fed k) (eqb last 255) (ltb last n) ∷ [])

-- Of letters of which h are held, once one more is taken: it is put behind them, and where k are held the oldest goes.
unfoldable pub pushed : ℕ → ℕ → List ℕ → ℕ → List ℕ
pushed k h letters a = drop (suc h - k) (take h letters ++ (a ∷ [])) ++ drop (suc h - (suc h - k)) letters

-- The bytes once a letter is taken.
unfoldable pub taken_into : ℕ → List ℕ → ℕ → ℕ → List ℕ
taken_into k bytes a last =
    encode k (record { fed = suc (decode bytes).fed; last = last; held = latest k ((decode bytes).held ++ (a ∷ [])) }) ++ drop
    (held_from + k) bytes

-- The bytes of a record that no letter was fed to.
unfoldable pub started_into : ℕ → List ℕ → ℕ → List ℕ
started_into k bytes last = encode k (record { fed = 0; last = last; held = [] }) ++ drop (held_from + k) bytes
