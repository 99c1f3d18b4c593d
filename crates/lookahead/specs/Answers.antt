-- What the look-ahead of successor sets is answered with, and what stands in the lent letters.
-- Assumes nothing.
use Rattle.std.specs.Prelude.{ℕ, ◌+◌, ◌≡◌, List, drop, Result, Ok, Err}
use Rattle.semiautomata.specs.Semiautomaton.{Semiautomaton}
use Rattle.semiautomata.specs.Predictability.{Claimed, Lookahead}
use Rattle.lookahead.specs.declared.Evidence.{Evidence}

-- Evidence as a claim: with these letters it is true of S.
abbrev pub TrueOf : Semiautomaton → Evidence → List ℕ → Type 0
TrueOf S e letters = Claimed S e.state e.letter e.low e.high e.stem e.cycle letters

-- k is the look-ahead, and the letters are untouched; or the evidence that there is none is a true claim with the letters now lent, of
-- which those past its lengths are kept.
abbrev pub Answers : Semiautomaton → Result ℕ Evidence → List ℕ → List ℕ → Type 0
Answers S (Ok k) old letters = Lookahead S k × (letters ≡ old)
Answers S (Err e) old letters =
    TrueOf S e letters × (drop (e.stem + e.cycle) letters ≡ drop (e.stem + e.cycle) old)
