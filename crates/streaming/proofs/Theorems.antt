-- The theorems of specs/Theorems.antt, each by the law that proves it.
-- Assumes nothing.
use Rattle.semiautomata.specs.Semiautomaton.{Semiautomaton}
use Rattle.streaming.specs.Theorems.{Theorems}
use Rattle.streaming.proofs.Streaming as streaming
use Rattle.streaming.proofs.Demand3 as demand

pub theorems : (S : Semiautomaton) → Theorems S
theorems S = record {
  one_state = streaming.only_state S;
  opening_refused = streaming.opened_none S;
  opening_taken = λ W k P s e r. streaming.opened_some S W k P s e r;
  sole_is = λ W X below w i x. (streaming.sole_out S W X below w i x, streaming.sole_in S W X below w i x);
  never_14 = streaming.never_14 S;
  base_reached = streaming.base_reached S;
  opening_14 = streaming.opening_14 S;
  feeding_14 = streaming.feeding_14 S;
  as_plain = streaming.streamed_plain S;
  plain_refusals = demand.plain_refusals S;
  fresh_refusals = demand.fresh_refusals S;
  plain_on_plan = demand.taken_walked S;
  ending = demand.finish_whole S;
  demand3 = λ W k l. demand.demand3 S W k l.enough;
}
