-- Lists written one after the other.
-- Assumes nothing.
use Prim.Native.Nat.{ℕ, ◌+◌, ◌≤◌}
use mathlib.Core.Path.{◌≡◌, sym, ◌∙◌, ap}
use mathlib.Core.List.{List, [], ◌++◌, append_assoc, append-nil}
use native.Mathlib.Omega.{arith}
use lib.ListN.{length, take, drop, take-append-drop, length-append, length-take, length-drop}
use lib.Seq.{take_at, drop_at, drop-drop}
use Rattle.slices.specs.Copying.{at_front}
use Rattle.slices.specs.Appending.{Appended}

pub appended_none : {old : List ℕ} (at : ℕ) → at ≤ length old → Appended old at [] at old
appended_none {old} at h = record {
  room = record { fits = omega arith };
  end = omega arith;
  is = let e : at + 0 ≡ at = omega arith in rw (e, append-nil, take-append-drop);
}

module _ {old : List ℕ} {at : ℕ} {a : List ℕ} {r : ℕ} {mid : List ℕ} (p : Appended old at a r mid) where
  pub appended_long : length mid ≡ length old
  appended_long = rw p.is (simp (length-append, length-take, length-drop) (omega (arith, p.room.fits)))

  head_long : length (take at old ++ a) ≡ at + length a
  head_long = simp (length-append, length-take) (omega (arith, p.room.fits))

  pub appended_on : {b : List ℕ} {s : ℕ} {out : List ℕ} → Appended mid r b s out → Appended old at (a ++ b) s out
  appended_on {b} {s} {out} q =
      let e : at + length (a ++ b) ≡ at + length a + length b = rw length-append (omega arith) in
      record {
        room = record { fits = omega (arith, p.end, q.room.fits, appended_long) };
        end = omega (arith, p.end, q.end);
        is =
            q.is
            ∙ rw (
              p.is,
              p.end,
              e,
              take_at (take at old ++ a) (drop (at + length a) old) (at + length a) head_long,
              ← append_assoc
                  (take at old) a b,
            )
            (ap (λ (l : List ℕ). ((take at old ++ a) ++ b) ++ l)
            (sym (drop-drop (length b) (at + length a) ((take at old ++ a) ++ drop (at + length a) old))
            ∙ rw (drop_at (take at old ++ a) (drop (at + length a) old) (at + length a) head_long)
            (drop-drop (length b) (at + length a) old)));
      }

-- from the front on
pub appended_front : {old xs out : List ℕ} {r : ℕ} → Appended old 0 xs r out → (r ≡ length xs) × (out ≡ at_front xs old)
appended_front {old} {xs} p = let e : 0 + length xs ≡ length xs = omega arith in (p.end ∙ e, rw e at p.is)
