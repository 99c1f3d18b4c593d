-- The sets of a whole walk: what a walk leaves in a buffer, and that these are the possible states at each position.
-- Assumes nothing.
use Prim.Native.Nat.{ℕ, suc, ◌≤◌}
use mathlib.Core.Path.{◌≡◌, sym, ◌∙◌, ap}
use mathlib.Core.List.{List, ◌++◌, map}
use native.Mathlib.Omega.{arith}
use lib.ListN.{length, get_or, take, drop, take-append-drop, get_or-append}
use lib.Seq.{length-take-le, get_or-take}
use Rattle.bitset.specs.Numbers.{set_of}
use Rattle.semiautomata.specs.Semiautomaton.{Semiautomaton, Within}
use Rattle.semiautomata.specs.Walks.{Longest, Possible, PossibleAt, possible, longest}
use Rattle.semiautomata.proofs.Computed.{possible_in, possible_out, longest_unique}
use Rattle.semiautomata.proofs.Positions.{possible_lt}
use Rattle.semiautomata.specs.Lists.{range}
use Rattle.table.proofs.Listed.{listed_length, listed_at, listed_are}
use Rattle.walks.specs.Walking.{Written}
use Rattle.walks.proofs.Longest.{longest_le}
use Rattle.simulate.specs.Walking.{traced}
use Rattle.simulate.specs.Verdicts.{Stands}
use Rattle.simulate.proofs.Sets.{stands}

module _ (S : Semiautomaton) (w : List ℕ) where
  pub traced_length : length (traced S w) ≡ suc (longest S w)
  unfolding traced
  traced_length = listed_length _ 0 (suc (longest S w))

  pub traced_is : {g : ℕ} {old out : List ℕ} → g ≡ longest S w → Written S.n (take g w) (possible S S.initial (take g w)) old out
      → suc g ≤ length out → out ≡ traced S w ++ drop (suc g) old
  unfolding traced
  traced_is {g} {old} {out} e t h =
      let long = length-take-le g w (longest_le S w e) in
      let front = listed_are (λ i. set_of S.n (possible S S.initial (take g w) i)) (suc g) (take (suc g) out)
      (length-take-le (suc g) out h) (λ i l. get_or-take (suc g) out i 0 l ∙ t.sets i (rw long (omega arith))) in
      let rest : drop (suc g) out ≡ drop (suc g) old = rw long at t.kept in
      sym (take-append-drop (suc g) out) ∙ (λ i. front i ++ rest i)
      ∙ ap (λ (z : ℕ). map (λ i. set_of S.n (possible S S.initial (take z w) i)) (range 0 (suc z)) ++ drop (suc g) old) e

  module _ (W : Within S) where
    pub possible_stands : (g : ℕ) → Longest S w g → (i : ℕ) → i ≤ g → {set : ℕ} → set ≡ set_of S.n (possible S S.initial (take g w) i)
        → Stands S.n (PossibleAt S w i) set
    possible_stands g l i h e = stands S.n _ e
        (λ x q. record { g = g; longest = l; fits = h; is = possible_out S S.initial (take g w) i x q })
        (λ x c.
        let p : Possible S S.initial (take g w) i x = rw (longest_unique S w c.g g c.longest l) at c.is in
        (possible_lt S S.initial W W.initial_lt p, possible_in S W S.initial (take g w) i x p))

    pub traced_stands : Longest S w (longest S w) → (rest : List ℕ) (i : ℕ) → i ≤ longest S w
        → Stands S.n (PossibleAt S w i) (get_or (traced S w ++ rest) i 0)
    unfolding traced
    traced_stands l rest i h =
        let g = longest S w in
        possible_stands g l i h (get_or-append (traced S w) rest 0 i (rw traced_length (omega arith))
        ∙ listed_at (λ i. set_of S.n (possible S S.initial (take g w) i)) 0 (suc g) i i (omega arith) (omega arith))
