-- The look-ahead is what walks wait for (W-203): they come through every critical set that counts, and each place where two states are
-- possible comes from one.
-- Assumes nothing.
use Prim.Native.Nat.{ℕ, ◌+◌, ◌-◌, ◌≤◌}
use mathlib.Core.Path.{sym, ◌∙◌}
use mathlib.Core.Logic.{◌↔◌}
use native.Mathlib.Omega.{arith}
use lib.ListN.{length, length-append}
use Rattle.semiautomata.specs.Semiautomaton.{Semiautomaton, Within}
use Rattle.semiautomata.specs.Predictability.{Critical, initial, fork, Counts, SomeClash, Predictable}
use Rattle.semiautomata.specs.Predictability.{Lookahead, Unpredictable}
use Rattle.semiautomata.specs.Waiting.{InDoubt, Certain, LeastWait}
use Rattle.semiautomata.proofs.Doubts.{way, clash_walk}
use Rattle.semiautomata.proofs.Paths.{initial_accessible}
use Rattle.semiautomata.proofs.Access.{accessible_short}
use Rattle.semiautomata.proofs.Decide.{clash_else, least_such}
use Rattle.semiautomata.proofs.Positions.{some_possible, possible_unique, whole_in, whole_out}

module _ (S : Semiautomaton) where
  clash_doubt : (j : ℕ) → SomeClash S j → InDoubt S j
  clash_doubt j (T, c, h) = (clash_walk S j T c h).0

  doubt_uncertain : (j : ℕ) → InDoubt S j → ¬ Certain S j
  doubt_uncertain j d certain =
      let (_, o) = certain d.word d.position d.on_plan (omega (arith, d.later)) in
      let t = d.two in
      t.differ (o.only t.x t.one ∙ sym (o.only t.y t.other))

  -- no doubt, no clash
  undoubted_predictable : (j : ℕ) → ¬ InDoubt S j → Predictable S j
  undoubted_predictable j none T c h = none (clash_doubt j (T, c, h))

  pub predictable_certain : (k : ℕ) → Predictable S k → Certain S k
  predictable_certain k P w i o h =
      let (x, c) = some_possible S S.initial w i o in (
        x,
        record {
          is = whole_in S w o i x (omega arith) c;
          only = λ y d. possible_unique S S.initial initial_accessible k (P initial tt) P w i y x h (whole_out S w o i y d) c;
        },
      )

  pub certain_is : (j : ℕ) → Certain S j ↔ ¬ InDoubt S j
  certain_is j = (λ s d. doubt_uncertain j d s, λ none. predictable_certain j (undoubted_predictable j none))

  module _ (W : Within S) where
    -- n + 1 letters are enough to come to a set that counts
    counts_short : (T : Critical) → Counts S T → (c : Counts S T) × (length (way S T c) ≤ S.n + 1)
    counts_short initial c = (c, omega arith)
    counts_short (fork q a) (c, some) =
        let (c, l) = accessible_short S W q c in
        ((c, some), rw length-append (omega (arith, l)))

    pub none_for_nothing : (k : ℕ) → 1 ≤ k → Lookahead S k → (d : InDoubt S (k - 1)) × (length d.word ≤ S.n + k)
    none_for_nothing k h l =
        let (T, c, clash) = l.least (k - 1) (omega arith) in
        let (c, short) = counts_short T c in
        let (d, long) = clash_walk S (k - 1) T c clash in
        (d, omega (arith, long, short, h))

    pub doubt_is : (j : ℕ) → InDoubt S j ↔ SomeClash S j
    doubt_is j = (λ d. clash_else S W j (λ P. doubt_uncertain j d (predictable_certain j P)), clash_doubt j)

    pub least_wait : (k : ℕ) → Lookahead S k ↔ LeastWait S k
    least_wait = least_such S W (Certain S) (λ j. (predictable_certain j, λ s. undoubted_predictable j ((certain_is j).0 s)))

    pub endless_doubt : Unpredictable S ↔ ((j : ℕ) → InDoubt S j)
    endless_doubt = (λ u j. (doubt_is j).1 (clash_else S W j (u j)), λ d k P. doubt_uncertain k (d k) (predictable_certain k P))
