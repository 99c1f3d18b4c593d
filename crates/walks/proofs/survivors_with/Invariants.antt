use Rattle.std.proofs.Common.{[], ◌∷◌, ◌++◌}
use Rattle.bitset.proofs.Taking.{Left, Picked}
use Rattle.semiautomata.specs.Walks.{spells}
use Rattle.semiautomata.specs.Means.{means}
use Rattle.walks.proofs.survivors_with.Given as goal

-- `out` has the members taken that can walk the word and the letter
abbrev pub invariant-loop-s : goal.invariant-loop-s
invariant-loop-s l =
    Left l.succ.n l.set l.s-iterator.rest × Picked l.set l.s-iterator.rest (spells (means l.succ) (l.word ++ (l.letter ∷ []))) l.out
