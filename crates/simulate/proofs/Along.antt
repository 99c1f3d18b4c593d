-- Where the steps along a whole walk end: in the last of the sets that the walk shows.
-- Assumes nothing.
use Prim.Native.Nat.{ℕ, ◌≤◌}
use mathlib.Core.Bool.{true}
use mathlib.Core.Logic.{◌↔◌}
use mathlib.Core.Path.{◌≡◌, refl, sym, ◌∙◌}
use mathlib.Core.List.{List, []}
use native.Mathlib.Omega.{arith}
use lib.ListN.{length, get_or, take, drop}
use lib.Seq.{drop-length, length-take-le}
use Rattle.bitset.specs.Numbers.{has}
use Rattle.bitset.proofs.Tests.{same_test}
use Rattle.bitset.proofs.Bits.{same_members}
use Rattle.semiautomata.specs.Semiautomaton.{Semiautomaton, Spells}
use Rattle.semiautomata.specs.Walks.{Longest}

-- the steps of all letters that are walked lead to the last set shown
abbrev pub LastShown : (i g last : ℕ) → List ℕ → Type 0
LastShown i g last out = i ≡ g → last ≡ get_or out g 0

pub last_shown : (S : Semiautomaton) (word : List ℕ) (g i last : ℕ) (out : List ℕ) → Longest S word g
    → (i ≤ g → (x : ℕ) → (has (get_or out i 0) x ≡ true) ↔ ((has last x ≡ true) × Spells S x (drop i (take g word))))
    → LastShown i g last out
last_shown S word g i last out l of_those e =
    let long : length (take g word) ≡ i = length-take-le g word l.fits ∙ sym e in
    let end : drop i (take g word) ≡ [] = rw long at (drop-length (take g word)) in
    rw (← e) (same_members last (get_or out i 0) (λ x. let (p, q) = of_those (omega arith) x in
    same_test _ _ (λ d. q (d, rw end (x, refl))) (λ d. (p d).0)))
