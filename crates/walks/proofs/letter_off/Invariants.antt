use Rattle.std.proofs.Common.{◌≡◌, nat_le, get_or}
use Rattle.bitset.specs.Sets.{any}
use Rattle.walks.proofs.letter_off.Given as goal

-- `off` says whether one of the letters read is not below m
abbrev pub invariant-loop-letter : goal.invariant-loop-letter
invariant-loop-letter l = l.off ≡ any l.letter-index (λ j. nat_le l.m (get_or l.word j 0))
