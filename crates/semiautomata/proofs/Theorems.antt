-- The theorems of specs/Theorems.antt, each by the law that proves it.
-- Assumes nothing.
use mathlib.Core.Logic.{inl, inr}
use Rattle.semiautomata.specs.Semiautomaton.{Semiautomaton}
use Rattle.semiautomata.specs.Theorems.{Theorems}
use Rattle.semiautomata.proofs.Shares as shares
use Rattle.semiautomata.proofs.Access as access
use Rattle.semiautomata.proofs.Wide as wide
use Rattle.semiautomata.proofs.Bound as bounds
use Rattle.semiautomata.proofs.Levels as levels
use Rattle.semiautomata.proofs.Decide as decide
use Rattle.semiautomata.proofs.Computed as computed
use Rattle.semiautomata.proofs.Positions as positions
use Rattle.semiautomata.proofs.Waiting as waiting
use Rattle.semiautomata.proofs.Selectors as verdicts

pub theorems : (S : Semiautomaton) → Theorems S
theorems S = record {
  unique = λ j k. shares.lookahead_unique;
  predicts = λ k. shares.lookahead_predicts;
  either = λ W. elim (decide.lookahead_or_witness S W) [ inl l ↦ inl l | inr (c, w) ↦ inr (decide.witness_unpredictable S c w) ];
  witness = decide.unpredictable_witness S;
  refutes = decide.witness_unpredictable S;
  refutes_set = decide.witness_endless S;
  bound = bounds.lookahead_bound S;
  bound_one_letter = bounds.lookahead_bound_one S;
  more_of_set = λ X j k. shares.set_more;
  more = λ j k. shares.predictable_more;
  need_unique = λ X j k. shares.need_unique;
  need_either = decide.need_either S;
  need_bound = bounds.need_bound S;
  smaller_shares = λ L i j s t. shares.share_sub i;
  smaller_needs = λ L i k. shares.predictable_sub i;
  accessible_is = λ W q. (access.accessible_out S q, access.accessible_in S W q);
  never_more = wide.never_more S;
  wide_missing = wide.wide_missing S;
  trimmed = wide.trim_lookahead S;
  trimmed_missing = wide.trim_unpredictable S;
  trimmed_within = wide.trim_within S;
  trimmed_accessible = wide.trim_accessible S;
  trimmed_edge = wide.trim_edge_out S;
  trimmed_kept = wide.trim_edge S;
  level = λ W j s t. (levels.live_out S j s t, levels.live_in S W);
  level_set = λ W X below j. (decide.clash_in_out S X j, decide.clash_in_in S W X below j);
  level_counts = λ W T. (decide.counts_out S T, decide.counts_in S W T);
  level_clash = λ W j. (decide.clash_out S j, decide.clash_in_lem S W j);
  level_stays = levels.live_fixed S;
  level_endless = λ W j r e. decide.fixed_endless S W j r (decide.clash_out S j e);
  spells_is = λ W w s. (computed.spells_out S w s, computed.spells_in S W w s);
  reach_is = λ W X w t. (computed.led_out S X w t, computed.led_in S W X w t);
  walkable_is = λ W X below w. (computed.walkable_out S X w, computed.walkable_in S W X below w);
  possible_is = λ W X w i x. (computed.possible_out S X w i x, computed.possible_in S W X w i x);
  longest_unique = computed.longest_unique S;
  longest_is = computed.longest_is S;
  whole_walk = λ w o i x h. (positions.whole_out S w o i x, positions.whole_in S w o i x h);
  possible_accessible = positions.possible_accessible S;
  never_grow = positions.possible_earlier S;
  none_for_nothing = waiting.none_for_nothing S;
  least_wait = waiting.least_wait S;
  endless_doubt = waiting.endless_doubt S;
  certain_is = waiting.certain_is S;
  doubt_is = waiting.doubt_is S;
  survivors_is = λ W X below w t. (verdicts.survivors_out S W X below w t, verdicts.survivors_in S W X below w t);
  selector_is = λ W X below w. (verdicts.selector_out S W X below w, verdicts.selector_in S W X below w);
  minimal_is = λ W X below w. (verdicts.minimal_out S W X below w, verdicts.minimal_in S W X below w);
  maximal_is = λ W X below w t. (verdicts.maximal_out S W X below w t, verdicts.maximal_in S W X below w t);
}
