-- Joining a set at the places of others: what the loop over the firsts keeps, and what it comes to in rows.
-- Assumes nothing.
use mathlib.Core.Bool.{Bool, true, false, ◌&&◌, ◌||◌, or-false, or_assoc}
use mathlib.Core.Bool.{and-or_distrib_left, and-or_distrib_right}
use mathlib.Core.Path.{◌≡◌, refl, ◌∙◌}
use mathlib.Core.List.{List}
use Prim.Native.Nat.{ℕ, ◌+◌, ◌*◌, ◌<◌}
use native.Mathlib.Decide.{ℕ_discrete}
use native.Mathlib.Omega.{arith}
use lib.Bits.{bit_or}
use lib.Dec.{eqb}
use lib.ListN.{length, get_or, set, length-set}
use lib.Seq.{get_or-set_same, get_or-set_other}
use borrow.Author.Tests.{eq-eqb, eqb-true}
use Rattle.bitset.specs.Numbers.{has}
use Rattle.bitset.specs.Members.{Taken}
use Rattle.bitset.proofs.Tests.{and_out, not_so}
use Rattle.bitset.proofs.Bits.{has_or}
use Rattle.bitset.proofs.Taking.{Left, taken, taken_with, taken_all, next_in}
use Rattle.semiautomata.specs.Successors.{place, set_at}
use Rattle.rows.specs.Rows.{Put}
use Rattle.rows.specs.inner.Joined.{JoinedAt}
use Rattle.semiautomata.proofs.Places.{place_same}

-- the place of the next of the firsts is among the rows
pub joining_room : {width at firsts rest z left seconds : ℕ} {p : ℕ → Bool} {old new : List ℕ}
    → ((s : ℕ) → has firsts s ≡ true → place width s at < length old) → Left 64 firsts rest → JoinedAt width at p seconds old new
    → Taken rest z left → place width z at < length new
joining_room f l k t = rw k.long (f _ (next_in l t))

module _ {width at : ℕ} (h : at < width) where
  -- one place is joined with the seconds
  join_place : (rows : List ℕ) (z seconds s b t : ℕ) → b < width → place width z at < length rows
      → has (set_at width (set rows (place width z at) (bit_or (set_at width rows z at) seconds)) s b) t
      ≡ (has (set_at width rows s b) t || (eqb at b && eqb z s) && has seconds t)
  join_place rows z seconds s b t g r = elim (ℕ_discrete (place width s b) (place width z at)) [
    | yes q ↦
        let (e, d) = place_same width s b z at g h q in
        rw (e, d, get_or-set_same rows (place width z at) _ 0 r, eq-eqb z z refl, eq-eqb at at refl) (has_or _ seconds t)
    | no q ↦
        let other : (eqb at b && eqb z s) ≡ false =
        not_so _ (λ e. let (x, y) = and_out (eqb at b) _ e in q (rw (eqb-true at b x, eqb-true z s y))) in
        rw (get_or-set_other rows (place width z at) (place width s b) _ 0 q, other, or-false)
  ]

  pub joining_next : {firsts rest z left seconds : ℕ} {old new : List ℕ} → Left 64 firsts rest → Taken rest z left
      → place width z at < length new → JoinedAt width at (taken firsts rest) seconds old new
      → let here = place width z at in
      JoinedAt width at (taken firsts left) seconds old (set new here (bit_or (get_or new here 0) seconds))
  joining_next {firsts} {rest} {z} {left} {seconds} {old} {new} l p r k = record {
    long = simp length-set k.long;
    is = λ s b t g. rw (
      join_place new z seconds s b t g r,
      k.is s b t g,
      taken_with l p s,
      and-or_distrib_left,
      and-or_distrib_right,
      or_assoc,
    );
  }

pub joining_all : {width at rest firsts seconds : ℕ} {old new : List ℕ} → Left 64 firsts rest → rest ≡ 0
    → JoinedAt width at (taken firsts rest) seconds old new → JoinedAt width at (has firsts) seconds old new
joining_all l e k = record { long = k.long; is = λ s b t h. k.is s b t h ∙ rw (taken_all l e s) }

-- rows have one place for each state
pub joined_put : {firsts seconds : ℕ} {old new : List ℕ} → JoinedAt 1 0 (has firsts) seconds old new → Put firsts seconds old new
joined_put k = record { long = k.long; is = λ s t. let e : s * 1 + 0 ≡ s = omega arith in rw e at (k.is s 0 t (omega arith)) }
