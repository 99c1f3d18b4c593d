-- Open lines printed one after the other, and all of them once an ending is answered.
-- Assumes nothing.
use Prim.Native.Nat.{ℕ, suc, ◌+◌, ◌-◌, ◌*◌, ◌^◌, ◌≤◌, ◌<◌}
use mathlib.Core.Path.{◌≡◌, sym, ap}
use mathlib.Core.List.{List, [], ◌∷◌, ◌++◌, append_assoc, append-nil}
use native.Mathlib.Numerals.{add-one}
use native.Mathlib.Omega.{arith}
use lib.ListN.{length, get_or, take, drop, length-append}
use lib.Seq.{take-suc, take_all, take_at, length-take-le}
use borrow.Author.Tests.{ne_eqb}
use Rattle.std.proofs.lemmas.Bool.Decides.{nat_tests}
use Rattle.records.specs.Bytes.{decode}
use Rattle.predictor.specs.Calls.{end_refusal, ended}
use Rattle.slices.specs.declared.Filling.{Filling}
use Rattle.slices.specs.Filling.{HasRoom, Puts}
use Rattle.slices.proofs.Putting.{puts_long, puts_none, puts_on}
use Rattle.lines.specs.Lines.{refused_line, open_line}
use Rattle.text.specs.Report.{open_lines, open_text}
use Rattle.text.specs.Calls.{most_sets, open_width, open_on}
use Rattle.lines.proofs.Widths.{open_width_lem}

open_snoc : (first : ℕ) (sets : List ℕ) (set : ℕ)
    → open_lines first (sets ++ (set ∷ [])) ≡ open_lines first sets ++ open_line (first + length sets) set
unfolding open_lines
open_snoc first [] set = let e : first + 0 ≡ first = omega arith in rw (e, append-nil)
open_snoc first (x ∷ sets) set =
    let e : first + suc (length sets) ≡ suc first + length sets = omega arith in
    rw (e, open_snoc (suc first) sets set, append_assoc)

-- the lines of the first i sets
pub record Lined (first : ℕ) (sets : List ℕ) (old : Filling) (i : ℕ) (new : Filling) : Type 0 where
  pub put : Puts old (open_lines first (take i sets)) new
  pub few : new.at ≤ old.at + open_width * i

pub lined_none : (first : ℕ) (sets : List ℕ) (old : Filling) → old.at ≤ length old.out.now → Lined first sets old 0 old
unfolding open_lines
lined_none first sets old h = record { put = puts_none old h; few = omega arith }

module _ {first : ℕ} {sets : List ℕ} {old : Filling} {i : ℕ} {new : Filling} (l : Lined first sets old i new) where
  pub lined_room : i < length sets → old.at + open_width * length sets ≤ length old.out.now → first + i < 2 ^ 64
      → HasRoom new (open_line (first + i) (get_or sets i 0))
  lined_room h g f =
      record { fits = omega (arith, l.few, puts_long l.put, open_width_lem (first + i) (get_or sets i 0) f) }

  pub lined_next : i < length sets → first + i < 2 ^ 64 → {after : Filling} → Puts new (open_line (first + i) (get_or sets i 0)) after
      → Lined first sets old (i + 1) after
  lined_next h f p =
      let e : open_lines first (take (i + 1) sets) ≡ open_lines first (take i sets) ++ open_line (first + i) (get_or sets i 0) =
      rw (add-one, take-suc sets i 0 h, open_snoc first (take i sets) (get_or sets i 0), length-take-le i sets (omega arith)) in
      record { put = rw e (puts_on l.put p); few = omega (arith, l.few, p.end, open_width_lem (first + i) (get_or sets i 0) f) }

  pub lined_all : length sets ≤ i → Puts old (open_lines first sets) new
  lined_all h = rw (take_all i sets h) at l.put

-- what an ending answers
module _ (table bytes : List ℕ) where
  -- there are bytes for a record
  pub record_long : end_refusal table bytes most_sets ≡ 0 → 8 ≤ length bytes
  unfolding end_refusal
  record_long e = grind (arith, nat_tests)

  pub finished_refused : (number : ℕ) → number ≡ end_refusal table bytes most_sets → ¬ (number ≡ 0) → open_on table bytes ≡ refused_line number
  unfolding open_on
  finished_refused number e n = rw (← e, ne_eqb number 0 n)

  pub finished_open : end_refusal table bytes most_sets ≡ 0 → (count first : ℕ) (sets rest : List ℕ) → count ≡ length (ended table bytes)
      → sets ≡ ended table bytes ++ rest → first ≡ (decode bytes).fed + 1 - count → open_on table bytes ≡ open_lines first (take count sets)
  unfolding open_on open_text
  finished_open z count first sets rest c s f =
      let e : first ≡ suc (decode bytes).fed - length (ended table bytes) = omega arith in
      rw (z, open_text, ← e, s, take_at (ended table bytes) rest count (sym c))

-- so many sets at the most
pub ended_few : (l old sets : List ℕ) {n : ℕ} → sets ≡ l ++ drop (length l) old → length sets ≡ n → length l ≤ n
ended_few l old sets e h = omega (arith, length-append l (drop (length l) old), ap length e)
