use Rattle.std.proofs.Common.{ℕ, ◌+◌, ◌-◌, ◌*◌, ◌<◌, ◌≡◌}
use Rattle.semiautomata.specs.Means.{means}
use Rattle.pairs.specs.Sharing.{Sharing}
use Rattle.pairs.specs.inner.Rounds.{At}
use Rattle.pairs.proofs.Timing.{Noting}
use Rattle.pairs.proofs.settle.Given as goal

-- some pairs are struck but not yet taken out; this level and every one before it has rivals that share a word
abbrev pub invariant-loop-low : goal.invariant-loop-low
invariant-loop-low l = record {
  gone : ℕ;
  at : At l.succ l.live l.struck l.back gone l.rounds;
  some : ¬ (gone ≡ 0);
  shared : (i : ℕ) → i < l.rounds + 1 → Sharing (means l.succ) l.rival i;
  noting : Noting (means l.succ) l.live l.fn.lifetimes l.lifetimes;
}

abbrev pub decreases-loop-low : goal.decreases-loop-low
decreases-loop-low l = l.succ.n * l.succ.n - l.rounds
