-- Buffers into which the sets along a word are written one by one, forwards and back.
-- Assumes nothing.
use Prim.Native.Nat.{ℕ, suc, ◌+◌, ◌-◌, ◌^◌, ◌≤◌, ◌<◌}
use mathlib.Core.Bool.{false, ◌&&◌}
use mathlib.Core.Path.{◌≡◌, refl, sym, ◌∙◌, ap}
use mathlib.Core.List.{List}
use native.Mathlib.Omega.{arith}
use native.Mathlib.Decide.{ℕ_discrete}
use lib.ListN.{length, get_or, take, drop, length-set}
use lib.ListN as L
use lib.Seq.{length-take-le, take-take, drop-drop, get_or-set_same, get_or-set_other, drop-set-lt}
use Rattle.bitset.specs.Sets.{any}
use Rattle.bitset.specs.Numbers.{has, set_of}
use Rattle.bitset.proofs.Bits.{set_of_lt, set_of_has, set_of_cong}
use Rattle.semiautomata.specs.Walks.{reach, possible, longest}
use Rattle.semiautomata.specs.Successors.{set_at, successors}
use Rattle.semiautomata.specs.Means.{means}
use Rattle.semiautomata.specs.declared.successors.Successors.{Successors}
use Rattle.semiautomata.proofs.BySets.{fit_within}
use Rattle.walks.specs.Walking.{Letters, Written}
use Rattle.walks.proofs.Steps.{reach_any, possible_any}
use Rattle.walks.proofs.Words.{some_of, back_set, possible_last}
use Rattle.walks.proofs.Longest.{longest_at}

-- FORWARDS: the sets that the first 0 to g letters lead to are written, and `here`, the last of them, is not empty

pub record Forth (x : Successors) (set : ℕ) (w old : List ℕ) (here g : ℕ) (out : List ℕ) : Type 0 where
  pub at : g ≤ length w
  pub is : here ≡ set_of x.n (reach (means x) (has set) (take g w))
  pub some : ¬ (here ≡ 0)
  pub long : length out ≡ length old
  pub written : (j : ℕ) → j ≤ g → get_or out j 0 ≡ set_of x.n (reach (means x) (has set) (take j w))
  pub kept : drop (suc g) out ≡ drop (suc g) old

pub forth_first : {x : Successors} {set : ℕ} {w : List ℕ} (old : List ℕ) → set < 2 ^ x.n → ¬ (set ≡ 0) → suc (length w) ≤ length old
    → Forth x set w (L.set old 0 set) set 0 (L.set old 0 set)
forth_first {x} {set = set} old h some room =
    let e = sym (set_of_has x.n set h) in record {
      at = omega arith;
      is = e;
      some = some;
      long = refl;
      written = λ j g. let z : j ≡ 0 = omega arith in rw (z, get_or-set_same old 0 set 0 (omega arith)) e;
      kept = refl;
    }

module _ {x : Successors} {set : ℕ} {w old : List ℕ} {here g : ℕ} {out : List ℕ} (o : Forth x set w old here g out) where
  pub forth_next : suc (length w) ≤ length old → g < length w → {next : ℕ}
      → next ≡ set_of x.n (reach (means x) (has set) (take (g + 1) w)) → ¬ (next ≡ 0)
      → Forth x set w old next (g + 1) (L.set out (g + 1) next)
  forth_next room h {next} e some = record {
    at = omega arith;
    is = e;
    some = some;
    long = length-set out (g + 1) next ∙ o.long;
    written = λ j l. elim (ℕ_discrete j (g + 1)) [
      | yes q ↦ rw (q, get_or-set_same out (g + 1) next 0 (omega (arith, o.long))) e
      | no q ↦ get_or-set_other out (g + 1) j next 0 q ∙ o.written j (omega arith)
    ];
    kept =
        let q : suc (g + 1) ≡ suc g + 1 = omega arith in
        drop-set-lt (suc (g + 1)) out (g + 1) next (omega arith)
        ∙ rw q (sym (drop-drop 1 (suc g) out) ∙ ap (drop 1) o.kept ∙ drop-drop 1 (suc g) old);
  }

  -- where the letters end, or the next one leads nowhere
  pub forth_longest : set < 2 ^ x.n → (g < length w → any x.n (reach (means x) (has set) (take (g + 1) w)) ≡ false)
      → g ≡ longest (successors x.n x.m set x.sets.now) w
  forth_longest below next =
      let same = reach_any x.n x.m set x.starts x.sets.now (has set) in
      longest_at (successors x.n x.m set x.sets.now) (fit_within x.n x.m set x.sets.now x.fit below) w g o.at
      (rw (same (take g w)) (some_of x.n _ o.is o.some))
      (λ h. rw (same (take (g + 1) w)) (next h))

-- the buffer keeps its rest also from before the first set was written
pub forth_written : {x : Successors} {set : ℕ} {w old : List ℕ} {here g : ℕ} {out : List ℕ}
    → Forth x set w (L.set old 0 set) here g out
    → Written x.n (take g w) (λ i. reach (means x) (has set) (take i (take g w))) old out
forth_written {set = set} {w = w} {old = old} {g = g} o =
    let e = length-take-le g w o.at in record {
      sets = λ i h. let h : i ≤ g = rw e at h in rw (take-take i g w h) (o.written i h);
      kept = rw e (o.kept ∙ drop-set-lt (suc g) old 0 set (omega arith));
    }

-- BACKWARDS: from place i on the possible states, below it what is reached

pub record Backed (x : Successors) (set : ℕ) (w old : List ℕ) (i : ℕ) (out : List ℕ) : Type 0 where
  pub letters : Letters x.m w
  pub room : suc (length w) ≤ length old
  pub at : i ≤ length w
  pub long : length out ≡ length old
  pub below : (j : ℕ) → j < i → get_or out j 0 ≡ set_of x.n (reach (means x) (has set) (take j w))
  pub written : (j : ℕ) → i ≤ j → j ≤ length w → get_or out j 0 ≡ set_of x.n (possible (means x) (has set) w j)
  pub kept : drop (suc (length w)) out ≡ drop (suc (length w)) old

pub backed_first : {x : Successors} {set : ℕ} {w old : List ℕ} → Letters x.m w → suc (length w) ≤ length old
    → ((j : ℕ) → j ≤ length w → get_or old j 0 ≡ set_of x.n (reach (means x) (has set) (take j w)))
    → Backed x set w old (length w) old
backed_first {x} {set} {w} l h came = record {
  letters = l;
  room = h;
  at = omega arith;
  long = refl;
  below = λ j h. came j (omega arith);
  written = λ j h g.
      let q : j ≡ length w = omega arith in
      rw q (came (length w) (omega arith) ∙ set_of_cong x.n _ _ (λ t _. possible_last (means x) (has set) w t));
  kept = refl;
}

module _ {x : Successors} {set : ℕ} {w old : List ℕ} {i : ℕ} {out : List ℕ} (o : Backed x set w old i out) where
  module _ (p : 0 < i) where
    here : get_or out (i - 1) 0 ≡ set_of x.n (reach (means x) (has set) (take (i - 1) w))
    here = o.below (i - 1) (omega arith)

    next : get_or out (i - 1 + 1) 0 ≡ set_of x.n (possible (means x) (has set) w (i - 1 + 1))
    next = o.written (i - 1 + 1) (omega arith) (omega arith)

    pub here_lt : get_or out (i - 1) 0 < 2 ^ x.n
    here_lt = rw here (set_of_lt x.n _)

    pub next_lt : get_or out (i - 1 + 1) 0 < 2 ^ x.n
    next_lt = rw next (set_of_lt x.n _)

    pub letter_lt : get_or w (i - 1) 0 < x.m
    letter_lt = o.letters.below (i - 1) (omega arith)

    pub backed_next : {v : ℕ}
        → v ≡ set_of x.n (λ s. has (get_or out (i - 1) 0) s
        && any x.n (λ t. has (get_or out (i - 1 + 1) 0) t && has (set_at x.m x.sets.now s (get_or w (i - 1) 0)) t))
        → Backed x set w old (i - 1) (L.set out (i - 1) v)
    backed_next {v} e = record {
      letters = o.letters;
      room = o.room;
      at = omega arith;
      long = length-set out (i - 1) v ∙ o.long;
      below = λ j h. get_or-set_other out (i - 1) j v 0 (λ q. omega arith) ∙ o.below j (omega arith);
      written = λ j h g. elim (ℕ_discrete j (i - 1)) [
        | yes q ↦ rw (q, get_or-set_same out (i - 1) v 0 (omega (arith, o.long, o.room)))
            (back_set x (has set) w (i - 1) _ _ v (omega arith) letter_lt here next e)
        | no q ↦ get_or-set_other out (i - 1) j v 0 q ∙ o.written j (omega arith) g
      ];
      kept = drop-set-lt (suc (length w)) out (i - 1) v (omega arith) ∙ o.kept;
    }

  pub backed_all : i ≤ 0 → (starts : ℕ) → Written x.n w (possible (successors x.n x.m starts x.sets.now) (has set) w) old out
  backed_all z starts = record {
    sets = λ j h. o.written j (omega arith) h
        ∙ set_of_cong x.n _ _ (λ t _. possible_any x.n x.m x.starts starts x.sets.now (has set) w j t);
    kept = o.kept;
  }
