-- What entering one line promises to the loops over lines.
-- Assumes nothing.
use Rattle.std.specs.Prelude.{ℕ, ◌^◌, ◌≤◌, ◌<◌, Bool, false, ◌||◌, ◌≡◌, ◌≢◌, List, ltb, leb, set}
use Rattle.std.specs.Int.Bits.{bit_or}
use Rattle.bitset.specs.Numbers.{has}
use Rattle.semiautomata.specs.Sizes.{max_sets}
use Rattle.semiautomata.specs.Successors.{place, set_at}
use Rattle.plan.specs.declared.Line.{Line}

-- So many of a line's three numbers are off, with n states and m letters.
pub record NumbersOff (n m : ℕ) (l : Line) (count : ℕ) : Type 0 where
  pub few : count ≤ 3
  pub some : ltb 0 count ≡ ((leb n l.from || leb m l.letter) || leb n l.to)

-- A line of the party is put into the set at its place, and whether it stood there already is answered; one of another party changes
-- nothing. Of a line of the party that has no place or no bit nothing is said.
pub record LineEntered (m party : ℕ) (l : Line) (old new : List ℕ) (there : Bool) : Type 0 where
  pub of_party : place m l.from l.letter < max_sets → l.to < 64 → l.party ≡ party
      → (new ≡ set old (place m l.from l.letter) (bit_or (set_at m old l.from l.letter) (2 ^ l.to)))
      × (there ≡ has (set_at m old l.from l.letter) l.to)
  pub of_another : l.party ≢ party → (new ≡ old) × (there ≡ false)
