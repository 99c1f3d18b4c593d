-- Little-endian numbers: the lowest byte first.
-- Assumes nothing.
use Rattle.std.specs.Prelude.{ℕ, zero, suc, ◌+◌, ◌*◌, ◌/◌, ◌%◌, List, [], ◌∷◌, get_or}

-- The number of c bytes from a place on.
abbrev pub number_at : List ℕ → ℕ → ℕ → ℕ
number_at bytes at zero = 0
number_at bytes at (suc c) = get_or bytes at 0 + 256 * number_at bytes (at + 1) c

-- .. and its bytes.
abbrev pub bytes_of : ℕ → ℕ → List ℕ
bytes_of zero x = []
bytes_of (suc c) x = x % 256 ∷ bytes_of c (x / 256)
