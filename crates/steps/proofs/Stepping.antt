-- What a step answers lies within the buffer, and when the buffers are long enough.
-- Assumes nothing.
use Prim.Native.Nat.{ℕ, ◌-◌, ◌≤◌, ◌<◌}
use mathlib.Core.Bool.{true, false, ◌&&◌}
use mathlib.Core.Path.{◌≡◌, sym, ◌∙◌}
use mathlib.Core.Logic.{◌⊎◌, inl, inr}
use mathlib.Core.List.{List}
use native.Mathlib.Omega.{arith}
use lib.Dec.{ltb}
use lib.ListN.{length, take, drop, length-drop}
use borrow.Author.Tests.{ltb-true, ltb-false}
use Rattle.bitset.proofs.Tests.{decided, and_out}
use Rattle.slices.proofs.Parts.{part_whole}
use Rattle.slices.specs.Appending.{Appended}
use Rattle.slices.proofs.Appending.{appended_long}
use Rattle.steps.specs.declared.Stage.{Stage}
use Rattle.steps.specs.Steps.{Steps, reads_on, begins, begins_last, feeds, feeds_last, finishes, stays}

pub part_long : (at : ℕ) (old : List ℕ) → length (take (length old - at) (drop at old)) ≡ length old - at
part_long at old = rw (part_whole at (length old - at) old (omega arith)) (length-drop at old)

-- two tests at once
pub both_less : (a b c : ℕ) → (ltb a b && ltb b c) ≡ true → (a < b) × (b < c)
both_less a b c e = let (x, y) = and_out (ltb a b) (ltb b c) e in (ltb-true a b x, ltb-true b c y)

pub not_both : (a b c : ℕ) → (ltb a b && ltb b c) ≡ false → (b ≤ a) ⊎ (c ≤ b)
not_both a b c e = elim (decided (ltb a b)) [
  | inl x ↦ inr (ltb-false b c (sym (rw x) ∙ e))
  | inr x ↦ inl (ltb-false a b x)
]

written_within : {old text : List ℕ} {at r : ℕ} {out : List ℕ} → Appended old at text r out → r ≤ length out
written_within p = omega (arith, p.end, p.room.fits, appended_long p)

pub count_within : {input table bytes old : List ℕ} {stage : Stage} {r : ℕ} {next : Stage} {table' left out : List ℕ}
    → Steps input table bytes old stage r next table' left out → r ≤ length out
count_within (reads_on _ _) = omega arith
count_within (begins _ b) = written_within b.2.put
count_within (begins_last _ b) = written_within b.2.put
count_within (feeds _ f) = written_within f.2.put
count_within (feeds_last f p) = written_within p
count_within (finishes _ p) = written_within p
count_within stays = omega arith
