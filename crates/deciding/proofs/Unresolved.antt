-- The possible states of the positions that are not resolved: these are the last ones of a trace of the held letters.
-- Assumes nothing.
use Prim.Native.Nat.{ℕ, zero, suc, ◌+◌, ◌-◌, ◌^◌, ◌≤◌, ◌<◌, min}
use mathlib.Core.Bool.{Bool, true, false, not, true≢false}
use mathlib.Core.Path.{◌≡◌, refl, sym, ◌∙◌, ap}
use mathlib.Core.List.{List, map}
use native.Mathlib.Omega.{arith}
use lib.ListN.{length, get_or, take, drop, length-take, length-drop}
use lib.Seq.{drop-cons}
use borrow.Author.Tests.{le-leb, lt-leb}
use Rattle.bitset.specs.Sets.{any}
use Rattle.bitset.specs.Numbers.{has, set_of}
use Rattle.bitset.proofs.Below.{with_any}
use Rattle.bitset.proofs.Bits.{has_empty}
use Rattle.semiautomata.specs.Semiautomaton.{Semiautomaton}
use Rattle.semiautomata.specs.Walks.{reach, possible, longest}
use Rattle.semiautomata.specs.Successors.{successors}
use Rattle.semiautomata.specs.Means.{means}
use Rattle.semiautomata.specs.declared.successors.Successors.{Successors}
use Rattle.semiautomata.specs.Lists.{range, collect}
use Rattle.semiautomata.proofs.Computed.{reach_out}
use Rattle.semiautomata.proofs.BySets.{fit_within}
use Rattle.streaming.specs.Demand3.{followed}
use Rattle.streaming.specs.Streaming.{base, unresolved}
use Rattle.walks.specs.Walking.{Written}
use Rattle.walks.proofs.Steps.{reach_any}
use Rattle.walks.proofs.Longest.{longest_whole}
use Rattle.records.specs.Bytes.{held_count, decode}
use Rattle.deciding.specs.Deciding.{open_sets}
use Rattle.deciding.proofs.Standing.{Standing}

module _ {A : Type 0} (q : ℕ → Bool) (f : ℕ → A) where
  collect_none : (p c d : ℕ) → ((i : ℕ) → p ≤ i → i < p + c → q i ≡ false) → collect q f (range p (c + d)) ≡ collect q f (range (p + c) d)
  collect_none p zero d h = let e : zero + d ≡ d = omega arith in let g : p + zero ≡ p = omega arith in rw (e, g)
  collect_none p (suc c) d h =
      let e : suc c + d ≡ suc (c + d) = omega arith in
      let g : p + suc c ≡ suc p + c = omega arith in
      rw (e, g, h p (omega arith) (omega arith)) (collect_none (suc p) c d (λ i a b. h i (omega arith) (omega arith)))

  -- the sets of a list from place p on are those of the numbers collected
  collect_list : (g : A → ℕ) (p c : ℕ) (l : List ℕ) → ((i : ℕ) → p ≤ i → i < p + c → (q i ≡ true) × (get_or l i 0 ≡ g (f i)))
      → p + c ≤ length l
      → map g (collect q f (range p c)) ≡ take c (drop p l)
  collect_list g p zero l h r = refl
  collect_list g p (suc c) l h r =
      let (a, b) = h p (omega arith) (omega arith) in
      rw (a, drop-cons l p 0 (omega arith), b, collect_list g (suc p) c l (λ i x y. h i (omega arith) (omega arith)) (omega arith))

pub open_list : (S : Semiautomaton) (k : ℕ) (X : ℕ → Bool) (w : List ℕ) (l : List ℕ) → length w ≤ k → suc (length w) ≤ length l
    → ((i : ℕ) → i ≤ length w → get_or l i 0 ≡ set_of S.n (possible S X w i)) → (count from : ℕ) → count ≡ min (suc (length w)) k
    → from ≡ suc (length w) - count
    → map (set_of S.n) (unresolved S k X w) ≡ take count (drop from l)
unfolding unresolved followed
open_list S k X w l h r at count from e d =
    let all : suc (length w) ≡ from + count = omega arith in
    ap (λ (c : ℕ). map (set_of S.n) (collect (λ i. not (followed k w i)) (possible S X w) (range 0 c))) all
    ∙ ap (map (set_of S.n)) (collect_none (λ i. not (followed k w i)) (possible S X w) 0 from count
    (λ i _ g. rw (followed, le-leb (i + k) (length w) (omega arith))))
    ∙ (let z : 0 + from ≡ from = omega arith in rw z (collect_list (λ i. not (followed k w i)) (possible S X w) (set_of S.n) from count l
    (λ i a b. (rw (followed, lt-leb (i + k) (length w) (omega arith)), at i (omega arith))) (omega arith)))

-- the same of a sound record, whose possible states are traced into a buffer
module _ (S : Semiautomaton) (k : ℕ) (bytes : List ℕ) {here : ℕ} (s : Standing S k bytes here) (from : ℕ)
    (is : has from ≡ base S k (decode bytes)) {part old all : List ℕ}
    (held : part ≡ (decode bytes).held) (o : Written S.n part (possible S (has from) part) old all) (count : ℕ)
    (room : suc (length part) ≤ length all) (e : count ≡ min (length part + 1) k) where
  pub open_sets_lem : open_sets S k bytes ≡ take count (drop (length part + 1 - count) all)
  open_sets_lem =
      let l : length part ≡ held_count bytes = ap length held ∙ s.long in
      rw (← is, ← held)
      (open_list S k (has from) part all (omega (arith, s.keeps.held_is)) room (λ i g. o.sets i g) count (length part + 1 - count)
      (omega arith) (omega arith))

  pub open_count : length (open_sets S k bytes) ≡ count
  open_count = rw (open_sets_lem, length-take, length-drop) (omega arith)

-- the held letters of a sound record can be walked from its base to their end
module _ (x : Successors) {k here from : ℕ} {bytes part : List ℕ} (below : from < 2 ^ x.n) (s : Standing (means x) k bytes here)
    (is : has from ≡ base (means x) k (decode bytes)) (held : part ≡ (decode bytes).held) where
  reached : any x.n (reach (means x) (has from) part) ≡ true
  reached = rw (is, held) s.some

  pub base_some : ¬ (from ≡ 0)
  base_some z = with_any x.n _
      (λ t _ e. let (t', d, _) = reach_out (means x) (has from) part t e in
      true≢false (sym d ∙ ap (λ (y : ℕ). has y t') z ∙ has_empty t')) reached

  pub held_whole : {g : ℕ} → g ≡ longest (successors x.n x.m from x.sets.now) part → take g part ≡ part
  held_whole = longest_whole _ (fit_within _ _ _ _ x.fit below) part
      (rw (reach_any x.n x.m from x.starts x.sets.now (has from) part) reached)
