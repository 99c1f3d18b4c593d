-- What whole walks show of the look-ahead (W-203), with a fit table of whose meaning k is the look-ahead.
-- Assumes nothing.
use Prim.Native.Nat.{ℕ, ◌+◌, ◌-◌, ◌^◌, ◌≤◌}
use mathlib.Core.Bool.{false}
use mathlib.Core.Path.{◌≡◌}
use mathlib.Core.List.{List}
use native.Mathlib.Omega.{arith}
use lib.ListN.{length, get_or, take}
use lib.Seq.{length-take-le}
use Rattle.bitset.specs.Sets.{single}
use Rattle.bitset.proofs.Bits.{pow_set_of}
use Rattle.semiautomata.specs.Semiautomaton.{Semiautomaton, Within}
use Rattle.semiautomata.specs.Predictability.{Lookahead}
use Rattle.semiautomata.specs.Walks.{PossibleAt, Only}
use Rattle.semiautomata.proofs.Positions.{single_is, single_in, possible_lt, only_longest}
use Rattle.semiautomata.proofs.Waiting.{none_for_nothing, predictable_certain}
use Rattle.table.specs.Table.{table_meaning, unfit}
use Rattle.table.proofs.Fitness.{fitting}
use Rattle.std.specs.Prelude.{Ok}
use Rattle.simulate.specs.Walking.{Walks}
use Rattle.simulate.specs.Verdicts.{Stands}
use Rattle.simulate.proofs.Sets.{stands}
use Rattle.simulate.proofs.Theorems.{one_set, walked, to_its_end}
use Rattle.demand.specs.Demand.{ShownInDoubt}

module _ (table : List ℕ) (fit : unfit table ≡ false) (k : ℕ) (l : Lookahead (table_meaning table) k) where
  abbrev S : Semiautomaton
  S = table_meaning table

  W : Within S
  W = (fitting table fit).within

  pub two_shown : 1 ≤ k → (d : ShownInDoubt table (k - 1)) × (length d.word ≤ S.n + k)
  two_shown h =
      let (d, short) = none_for_nothing S W k h l in (
        record {
          word = d.word;
          position = d.position;
          later = d.later;
          shown = λ a old out room c.
              let end = to_its_end table d.word a old out fit d.on_plan room c in
              let (_, stand, _, _) = walked table d.word (length d.word) old out (rw end at c) in
              let is = (stand d.position (omega (arith, d.later))).is in
              let t = d.two in
              (end, record { x = t.x; y = t.y; differ = t.differ; one = (is t.x).1 t.one; other = (is t.y).1 t.other });
        },
        short,
      )

  -- the number of a set in which x alone is possible
  alone : (word : List ℕ) (i x : ℕ) → Only S word i x → {set : ℕ} → Stands S.n (PossibleAt S word i) set → set ≡ 2 ^ x
  alone word i x one s =
      let below = possible_lt S S.initial W W.initial_lt one.is.is in
      one_set _ _ _ _ s (stands S.n (single x) (pow_set_of S.n x below) (λ y e. rw (single_is x y e) one.is)
      (λ y c. rw (one.only y c) (below, single_in x)))

  pub one_shown : (word : List ℕ) (g : ℕ) (old out : List ℕ) → Walks table word (Ok g) old out
      → (i : ℕ) → i + k ≤ g → (x : ℕ) × (get_or out i 0 ≡ 2 ^ x)
  one_shown word g old out c i h =
      let (long, stand, _, _) = walked table word g old out c in
      let (x, one) = predictable_certain S k l.enough (take g word) i long.walked (rw (length-take-le g word long.fits) h) in
      (x, alone word i x (only_longest S word g long i x (omega arith) one) (stand i (omega arith)))
