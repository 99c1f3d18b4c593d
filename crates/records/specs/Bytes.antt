-- The record's bytes (document 01, Walks): legs taken in 32 bits, the last booked stake or 255, a zero byte, the held count in 16 bits, all
-- little-endian, then from byte 8 on k bytes: the held codes, oldest first, and zeros.
-- Assumes nothing.
use Rattle.std.specs.Prelude.{ℕ, ◌+◌, ◌-◌, Bool, ◌&&◌, not, List, ◌∷◌, ◌++◌, eqb, leb, length, get_or, take, drop, replicate}
use Rattle.endian.specs.Numbers.{number_at, bytes_of}
use Rattle.bitset.specs.Sets.{any}
use Rattle.streaming.specs.Streaming.{Rec}

abbrev pub held_from : ℕ
held_from = 8

abbrev pub held_count : List ℕ → ℕ
held_count bytes = number_at bytes 6 2

-- The record that the bytes hold.
abbrev pub decode : List ℕ → Rec
decode bytes = record { fed = number_at bytes 0 4; last = get_or bytes 4 0; held = take (held_count bytes) (drop held_from bytes) }

-- The bytes keep the rules of the layout for k: the byte after the last state is zero, at most k letters are held, and past them is zero.
unfoldable pub tidy : ℕ → List ℕ → Bool
tidy k bytes =
    eqb (get_or bytes 5 0) 0
    && (leb (held_count bytes) k && not (any (k - held_count bytes) (λ i. not (eqb (get_or bytes (held_from + held_count bytes + i) 0) 0))))

-- The 8 + k bytes of a record.
abbrev pub encode : ℕ → Rec → List ℕ
encode k r = bytes_of 4 r.fed ++ (r.last ∷ 0 ∷ bytes_of 2 (length r.held) ++ (r.held ++ replicate (k - length r.held) 0))
