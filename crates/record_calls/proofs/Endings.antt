-- An ending has few sets.
-- Assumes nothing.
use Prim.Native.Nat.{ℕ, zero, suc, ◌+◌, ◌≤◌, min}
use mathlib.Core.Bool.{true, false, not}
use mathlib.Core.Path.{◌≡◌}
use mathlib.Core.Logic.{◌⊎◌, inl, inr}
use mathlib.Core.List.{List}
use native.Mathlib.Omega.{arith}
use lib.Dec.{leb}
use lib.ListN.{length, length-map}
use borrow.Author.Tests.{leb-false}
use Rattle.bitset.specs.Numbers.{set_of}
use Rattle.bitset.proofs.Tests.{decided}
use Rattle.streaming.specs.Demand3.{followed}
use Rattle.semiautomata.specs.Lists.{range, collect}
use Rattle.semiautomata.specs.Walks.{possible}
use Rattle.streaming.specs.Streaming.{base, unresolved, finish}
use Rattle.table.specs.Table.{states_of, lookahead_of, table_meaning, unfit}
use Rattle.table.proofs.Fitness.{fitting, lookahead_le}
use Rattle.records.specs.Bytes.{decode}
use Rattle.predictor.specs.Calls.{end_refusal, ended}

module _ {A : Type 0} (k : ℕ) (w : List ℕ) (f : ℕ → A) where
  -- of the last c positions at most k are not followed by k letters
  last_few : (p c : ℕ) → p + c ≡ suc (length w) → length (collect (λ i. not (followed k w i)) f (range p c)) ≤ min c k
  unfolding followed
  last_few p zero e = omega arith
  last_few p (suc c) e = go (decided (leb (p + k) (length w))) (last_few (suc p) c (omega arith))
    where
      go : (leb (p + k) (length w) ≡ true) ⊎ (leb (p + k) (length w) ≡ false)
          → length (collect (λ i. not (leb (i + k) (length w))) f (range (suc p) c)) ≤ min c k
          → length (collect (λ i. not (leb (i + k) (length w))) f (range p (suc c))) ≤ min (suc c) k
      go (inl a) h = rw a (omega arith)
      go (inr a) h = rw a (omega (arith, leb-false (p + k) (length w) a))

pub few_ended : (table bytes : List ℕ) (sets : ℕ) → end_refusal table bytes sets ≡ 0 → length (ended table bytes) ≤ 2016
unfolding end_refusal unresolved
few_ended table bytes sets e = go (decided (unfit table))
  where
    go : (unfit table ≡ true) ⊎ (unfit table ≡ false) → length (ended table bytes) ≤ 2016
    go (inl u) = let z : ◌≡◌ {A = ℕ} 8 0 = rw (end_refusal, u) at e in absurd (omega arith)
    go (inr u) =
        let S = table_meaning table in
        let k = lookahead_of table in
        let w = (decode bytes).held in
        let f = last_few k w (possible S (base S k (decode bytes)) w) 0 (suc (length w)) (omega arith) in
        omega (arith, length-map (finish S k (decode bytes)) (set_of (states_of table)), lookahead_le (fitting table u), f)
