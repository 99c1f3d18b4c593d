-- The members of a set listed one by one.
-- Assumes nothing.
use Prim.Native.Nat.{ℕ, ◌+◌, ◌^◌, ◌≤◌, ◌<◌}
use mathlib.Core.Bool.{true, false, ◌&&◌, cond, and-true, and-false}
use mathlib.Core.Path.{◌≡◌, sym, ◌∙◌}
use mathlib.Core.List.{[]}
use native.Mathlib.Decide.{dec_lt, ℕ_discrete}
use native.Mathlib.Omega.{arith}
use lib.Dec.{leb}
use lib.ListN.{length}
use borrow.Author.Tests.{le-leb, lt-leb, leb-true, eq-eqb, ne_eqb}
use Rattle.bitset.specs.Numbers.{has}
use Rattle.bitset.specs.Members.{Taken}
use Rattle.bitset.proofs.Tests.{and_out}
use Rattle.bitset.proofs.Below.{least_is}
use Rattle.bitset.proofs.Bits.{has_empty, has_lt}
use Rattle.bitset.proofs.Taking.{left_first, left_next, next_in}
use Rattle.slices.specs.declared.Filling.{Filling}
use Rattle.slices.specs.Appending.{each}
use Rattle.slices.specs.Filling.{HasRoom, Puts}
use Rattle.slices.proofs.Putting.{puts_none, each_room, each_next}
use Rattle.slices.proofs.Each.{each_up}
use Rattle.lines.specs.Lines.{space, field, listed}

-- the members below a bound are listed, and the others are left
pub record Listed (old : Filling) (set rest : ℕ) (new : Filling) : Type 0 where
  pub bound : ℕ
  pub word : rest < 2 ^ 64
  pub left : (k : ℕ) → has rest k ≡ (has set k && leb bound k)
  pub few : bound ≤ 64
  pub put : Puts old (listed bound (has set)) new

pub listed_first : {old : Filling} (set : ℕ) → set < 2 ^ 64 → old.at ≤ length old.out.now → Listed old set set old
unfolding each
listed_first {old} set h g = record {
  bound = 0;
  word = h;
  left = λ k. rw (le-leb 0 k (omega arith)) (sym (and-true (has set k)));
  few = omega arith;
  put = puts_none old g;
}

module _ {old : Filling} {set rest : ℕ} {new : Filling} (l : Listed old set rest new) where
  -- what is not left from the bound on is no member
  unset : (k : ℕ) → l.bound ≤ k → has rest k ≡ false → has set k ≡ false
  unset k h e = rw (le-leb l.bound k h, and-true) at (sym (l.left k) ∙ e)

  module _ {s left : ℕ} (t : Taken rest s left) where
    s_left : has rest s ≡ true
    s_left = next_in (left_first 64 rest (omega arith) l.word) t

    pub s_below : s < 64
    s_below = has_lt 64 rest s l.word s_left

    s_in : (has set s ≡ true) × (leb l.bound s ≡ true)
    s_in = and_out (has set s) _ (sym (l.left s) ∙ s_left)

    none_before : (k : ℕ) → k < s → has rest k ≡ false
    none_before k h = (least_is 64 (has rest) s s_below s_left).1.none_below k (rw (← t.is) h)

    left_on : (k : ℕ) → has left k ≡ (has set k && leb (s + 1) k)
    left_on k = elim (dec_lt k s) [
      | yes g ↦ rw (t.others k, none_before k g, lt-leb (s + 1) k (omega arith), and-false)
      | no g ↦ elim (ℕ_discrete s k) [
        | yes e ↦ rw (t.others k, eq-eqb s k e, lt-leb (s + 1) k (omega arith), and-false (has rest k), and-false (has set k))
        | no ne ↦ rw (t.others k, ne_eqb s k ne, and-true, l.left k, le-leb l.bound k (omega (arith, leb-true _ _ s_in.1)), le-leb (s + 1) k (omega arith))
      ]
    ]

    -- up to s there is nothing more to list
    up_to : Puts old (listed s (has set)) new
    up_to = rw (each_up l.bound s (λ k. cond (has set k) (field space k) []) (leb-true _ _ s_in.1) (λ k h g. rw (unset k h (none_before k g)))) l.put

    pub listed_room : HasRoom old (listed 64 (has set)) → HasRoom new (field space s)
    listed_room h = rw s_in.0 at (each_room _ s up_to 64 h s_below)

    pub listed_next : {after : Filling} → Puts new (field space s) after → Listed old set left after
    listed_next p = record {
      bound = s + 1;
      word = (left_next (left_first 64 rest (omega arith) l.word) t).below;
      left = left_on;
      few = omega (arith, s_below);
      put = each_next _ s up_to (rw s_in.0 p);
    }

  pub listed_all : rest ≡ 0 → Puts old (listed 64 (has set)) new
  listed_all e = rw (each_up l.bound 64 (λ k. cond (has set k) (field space k) []) l.few (λ k h g. rw (unset k h (rw e (has_empty k))))) l.put
