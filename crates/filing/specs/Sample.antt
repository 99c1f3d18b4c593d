-- The forms of two plans, to the byte: plan G of document 01 as another group might draw it, and a plan of edition 2 whose lines differ in
-- their parties.
-- Assumes nothing.
use Rattle.std.specs.Prelude.{ℕ, ◌≡◌, List, [], ◌∷◌, ◌++◌}
use Rattle.filing.specs.Filed.{filed}

-- The header, then a gap, the lines backwards, a gap, the starts backwards, a gap.
abbrev pub drawn_otherwise : List ℕ
drawn_otherwise =
    (1 ∷ 0 ∷ 3 ∷ 0 ∷ 2 ∷ 0 ∷ 2 ∷ 0 ∷ 4 ∷ 0 ∷ 30 ∷ 0 ∷ 17 ∷ 0 ∷ 35 ∷ 0 ∷ [])
    ++ (99 ∷ [])
    ++ (2 ∷ 1 ∷ 2 ∷ 1 ∷ 1 ∷ 0 ∷ 1 ∷ 0 ∷ 2 ∷ 0 ∷ 0 ∷ 1 ∷ [])
    ++ (99 ∷ [])
    ++ (1 ∷ 0 ∷ [])
    ++ (99 ∷ 99 ∷ 99 ∷ [])

-- The header, the starts, the lines.
abbrev pub in_its_form : List ℕ
in_its_form =
    (1 ∷ 0 ∷ 3 ∷ 0 ∷ 2 ∷ 0 ∷ 2 ∷ 0 ∷ 4 ∷ 0 ∷ 16 ∷ 0 ∷ 18 ∷ 0 ∷ 30 ∷ 0 ∷ [])
    ++ (0 ∷ 1 ∷ [])
    ++ (0 ∷ 0 ∷ 1 ∷ 1 ∷ 0 ∷ 2 ∷ 1 ∷ 1 ∷ 0 ∷ 2 ∷ 1 ∷ 2 ∷ [])

-- Edition 2, n 2, m 2: the header, a gap, the lines (of parties 7 and 0 the same from, code and to), a gap, the starts, a gap.
abbrev pub drawn_by_parties : List ℕ
drawn_by_parties =
    (2 ∷ 0 ∷ 2 ∷ 0 ∷ 2 ∷ 0 ∷ 2 ∷ 0 ∷ 4 ∷ 0 ∷ 34 ∷ 0 ∷ 17 ∷ 0 ∷ 38 ∷ 0 ∷ [])
    ++ (99 ∷ [])
    ++ (1 ∷ 1 ∷ 0 ∷ 0 ∷ 0 ∷ 1 ∷ 1 ∷ 7 ∷ 0 ∷ 1 ∷ 1 ∷ 0 ∷ 0 ∷ 1 ∷ 0 ∷ 3 ∷ [])
    ++ (99 ∷ [])
    ++ (1 ∷ 0 ∷ [])
    ++ (99 ∷ 99 ∷ [])

-- The header, the starts, the lines: by `to` before the party, and of the two that differ in it alone the lower first.
abbrev pub by_parties : List ℕ
by_parties =
    (2 ∷ 0 ∷ 2 ∷ 0 ∷ 2 ∷ 0 ∷ 2 ∷ 0 ∷ 4 ∷ 0 ∷ 16 ∷ 0 ∷ 18 ∷ 0 ∷ 34 ∷ 0 ∷ [])
    ++ (0 ∷ 1 ∷ [])
    ++ (0 ∷ 1 ∷ 0 ∷ 3 ∷ 0 ∷ 1 ∷ 1 ∷ 0 ∷ 0 ∷ 1 ∷ 1 ∷ 7 ∷ 1 ∷ 1 ∷ 0 ∷ 0 ∷ [])

abbrev pub SampleFiled : Type 0
SampleFiled = (filed drawn_otherwise ≡ in_its_form) × (filed drawn_by_parties ≡ by_parties)
