-- What is written into a lent buffer.
-- Assumes nothing.
use Rattle.std.specs.Prelude.{ℕ, ◌+◌, List, ◌++◌, length, take, drop}

-- The elements of a list at the front of a buffer that keeps its rest.
abbrev pub at_front : {A : Type 0} → List A → List A → List A
at_front xs old = xs ++ drop (length xs) old

-- .. from a place on.
abbrev pub pasted : List ℕ → ℕ → List ℕ → List ℕ
pasted old at xs = take at old ++ xs ++ drop (at + length xs) old
