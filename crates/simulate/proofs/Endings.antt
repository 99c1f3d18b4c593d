-- States that can walk no longer word: what a word leads them to is a set from which no letter leads anywhere.
-- Assumes nothing.
use Rattle.std.specs.Bool.{MatchBool}
use Rattle.std.specs.List.{range_with_len, AllWithin, HoldsAt}
use Rattle.std.proofs.lemmas.List.FromFn.{length-range_with_len, get_or-range_with_len}
use Prim.Native.Nat.{ℕ, ◌<◌}
use mathlib.Core.Bool.{Bool, true, false, not}
use mathlib.Core.Path.{◌≡◌, sym, ◌∙◌, ap}
use mathlib.Core.List.{List, [], ◌∷◌, ◌++◌}
use native.Mathlib.Omega.{arith}
use lib.ListN.{length, get_or}
use Rattle.bitset.specs.Sets.{any}
use Rattle.bitset.specs.Numbers.{has, set_of}
use Rattle.bitset.proofs.Below.{any_in, any_none, any_cong}
use Rattle.semiautomata.specs.Walks.{step, reach}
use Rattle.semiautomata.specs.Successors.{successors}
use Rattle.semiautomata.specs.Means.{means}
use Rattle.semiautomata.specs.declared.successors.Successors.{Successors}
use Rattle.walks.proofs.Steps.{spells_any}
use Rattle.walks.proofs.Words.{alone, alone_step}
use Rattle.simulate.specs.inner.Verdicts.{ends}

-- what a search through the letters answers
pub none_leads : (m : ℕ) (p : ℕ → Bool) (r : Bool) → let letters = range_with_len 0 m in
    MatchBool r (AllWithin (λ a. p a ≡ false) letters 0 (length letters)) ((k : ℕ) × (k < length letters) × HoldsAt (λ a. p a ≡ true) letters k)
    → r ≡ not (any m p)
none_leads m p true h = sym (ap not (any_none m p (λ k l. rw (letter k l) at (h k 0 (omega arith) (rw length-range_with_len l)))))
  where
    letter : (k : ℕ) → k < m → get_or (range_with_len 0 m) k 0 ≡ k
    letter k l = get_or-range_with_len 0 m k 0 l ∙ omega arith
none_leads m p false (k, h, leads) =
    let l : k < m = rw length-range_with_len at h in
    let letter : get_or (range_with_len 0 m) k 0 ≡ k = get_or-range_with_len 0 m k 0 l ∙ omega arith in
    sym (ap not (any_in m p k l (rw letter at (leads 0))))

pub stuck_ends : (x : Successors) {s : ℕ} → s < x.n → (w : List ℕ) {r : ℕ} → r ≡ set_of x.n (reach (means x) (has (alone s)) w)
    → not (any x.m (λ a. any x.n (step (means x) (has r) a))) ≡ ends (means x) w s
stuck_ends x h w e = ap not (any_cong x.m _ _ (λ a _. alone_step x h w e a))

-- whatever the initial states are
pub ends_any : (n m starts other : ℕ) (sets w : List ℕ) (t : ℕ)
    → ends (successors n m starts sets) w t ≡ ends (successors n m other sets) w t
ends_any n m starts other sets w t = ap not (any_cong m _ _ (λ a _. spells_any n m starts other sets (w ++ (a ∷ [])) t))
