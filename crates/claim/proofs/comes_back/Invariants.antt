use Rattle.bitset.proofs.Taking.{Left, Passed}
use Rattle.semiautomata.specs.Means.{means}
use Rattle.claim.proofs.Claims.{leads_back}
use Rattle.claim.proofs.comes_back.Given as goal

-- no member taken is led back to itself
abbrev pub invariant-loop-s : goal.invariant-loop-s
invariant-loop-s l = Left l.succ.n l.set l.s-iterator.rest × Passed l.set l.s-iterator.rest (leads_back (means l.succ) l.cycle)
