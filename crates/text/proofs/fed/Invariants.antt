use Rattle.text.proofs.Feeding.{PutUpto}
use Rattle.text.proofs.fed.Given as goal

abbrev pub invariant-loop-letter : goal.invariant-loop-letter
invariant-loop-letter l = PutUpto l.table l.fn.rec l.letters l.fn.out l.letter-index l.rec l.out
