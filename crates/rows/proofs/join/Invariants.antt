use Rattle.bitset.proofs.Taking.{Left, taken}
use Rattle.rows.specs.inner.Joined.{JoinedAt}
use Rattle.rows.proofs.join.Given as goal

abbrev pub invariant-loop-s : goal.invariant-loop-s
invariant-loop-s l = record {
  left : Left 64 l.firsts l.s-iterator.rest;
  joined : JoinedAt l.width l.at (taken l.firsts l.s-iterator.rest) l.seconds l.fn.rows l.rows;
}
