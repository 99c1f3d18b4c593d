-- A plan as lists, as document 01 writes one down, and its bytes without gaps, in either edition.
-- Assumes nothing.
use Rattle.std.specs.Prelude.{ℕ, ◌+◌, ◌*◌, cond, List, [], ◌∷◌, ◌++◌, length}
use Rattle.endian.specs.Numbers.{bytes_of}
use Rattle.plan.specs.declared.Line.{Line}
use Rattle.plan.specs.Plan.{has_parties}
use Rattle.plan.specs.Bytes.{line_width}

-- The edition, n and m, the starts and the lines in order.
pub record Listed : Type 0 where
  pub edition : ℕ
  pub n : ℕ
  pub m : ℕ
  pub starts : List ℕ
  pub lines : List Line

-- The bytes of a line in an edition.
abbrev pub line_bytes : ℕ → Line → List ℕ
line_bytes edition l = l.from ∷ l.letter ∷ l.to ∷ cond (has_parties edition) (l.party ∷ []) []

-- The bytes of each of a list, one after the other.
abbrev pub joined : {A : Type 0} → (A → List ℕ) → List A → List ℕ
joined f [] = []
joined f (x ∷ xs) = f x ++ joined f xs

-- The header without gaps: its eight numbers.
abbrev pub header_bytes : ℕ → ℕ → ℕ → ℕ → ℕ → List ℕ
header_bytes edition n m p e =
    joined (bytes_of 2) (edition ∷ n ∷ m ∷ p ∷ e ∷ 16 ∷ (16 + p) ∷ (16 + p + line_width edition * e) ∷ [])

-- The bytes without gaps: the header, the starts, the lines.
abbrev pub plan_bytes : Listed → List ℕ
plan_bytes P =
    header_bytes P.edition P.n P.m (length P.starts) (length P.lines)
    ++ P.starts
    ++ joined (line_bytes P.edition) P.lines
