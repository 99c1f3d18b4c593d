-- What one letter does over successor sets; and that a walk does not depend on the initial states.
-- Assumes nothing.
use Prim.Native.Nat.{ℕ, ◌<◌}
use mathlib.Core.Bool.{Bool, ◌&&◌}
use mathlib.Core.Path.{◌≡◌, refl, sym, ◌∙◌, ap, fun_ext}
use mathlib.Core.List.{List, [], ◌∷◌}
use lib.ListN.{take, drop}
use borrow.Author.Tests.{lt-ltb}
use Rattle.bitset.specs.Numbers.{has, set_of}
use Rattle.bitset.proofs.Below.{any_cong}
use Rattle.bitset.proofs.Bits.{has_set_of, set_of_lt, set_of_has, set_of_cong}
use Rattle.bitset.proofs.Taking.{Left, Joined, joined_all}
use Rattle.semiautomata.specs.Semiautomaton.{Semiautomaton, Within, Path}
use Rattle.semiautomata.specs.Walks.{spells, step, reach, survivors, possible}
use Rattle.semiautomata.specs.Successors.{set_at, successors}
use Rattle.semiautomata.specs.Means.{means}
use Rattle.semiautomata.specs.declared.successors.Successors.{Successors}
use Rattle.semiautomata.proofs.BySets.{edge_is, fit_within}
use Rattle.semiautomata.proofs.Places.{place_fits}

pub means_within : (x : Successors) → Within (means x)
means_within x = fit_within _ _ _ _ x.fit x.starts_fit

-- A WALK DOES NOT DEPEND ON THE INITIAL STATES

pub step_any : (n m starts other : ℕ) (sets : List ℕ) (X : ℕ → Bool) (a : ℕ)
    → step (successors n m starts sets) X a ≡ step (successors n m other sets) X a
unfolding step
step_any n m starts other sets X a = refl

pub reach_any : (n m starts other : ℕ) (sets : List ℕ) (X : ℕ → Bool) (w : List ℕ)
    → reach (successors n m starts sets) X w ≡ reach (successors n m other sets) X w
unfolding step
reach_any n m starts other sets X [] = refl
reach_any n m starts other sets X (a ∷ w) = reach_any n m starts other sets (step (successors n m other sets) X a) w

pub spells_any : (n m starts other : ℕ) (sets w : List ℕ) (s : ℕ)
    → spells (successors n m starts sets) w s ≡ spells (successors n m other sets) w s
unfolding spells
spells_any n m starts other sets [] s = refl
spells_any n m starts other sets (a ∷ w) s = any_cong n _ _ (λ r h. rw (spells_any n m starts other sets w r))

pub path_any : (n m starts other : ℕ) (sets w : List ℕ) (s t : ℕ)
    → Path (successors n m starts sets) s w t → Path (successors n m other sets) s w t
path_any n m starts other sets [] s t p = p
path_any n m starts other sets (a ∷ w) s t (r, e, p) = (r, e, path_any n m starts other sets w r t p)

pub survivors_any : (n m starts other : ℕ) (sets : List ℕ) (X : ℕ → Bool) (w : List ℕ) (s : ℕ)
    → survivors (successors n m starts sets) X w s ≡ survivors (successors n m other sets) X w s
survivors_any n m starts other sets X w s = ap (λ (b : Bool). X s && b) (spells_any n m starts other sets w s)

pub possible_any : (n m starts other : ℕ) (sets : List ℕ) (X : ℕ → Bool) (w : List ℕ) (i x : ℕ)
    → possible (successors n m starts sets) X w i x ≡ possible (successors n m other sets) X w i x
unfolding possible
possible_any n m starts other sets X w i x =
    rw (reach_any n m starts other sets X (take i w), spells_any n m starts other sets (drop i w) x)

-- ONE LETTER: the sets that it leads to from all members, joined
pub gathered : (x : Successors) {a : ℕ} → a < x.m → {set rest out : ℕ} → Left x.n set rest → rest ≡ 0
    → Joined x.n set rest (λ s. set_at x.m x.sets.now s a) out → (starts : ℕ)
    → out ≡ set_of x.n (step (successors x.n x.m starts x.sets.now) (has set) a)
unfolding step
gathered x {a} h {set} l e j starts =
    joined_all l e (λ s g. place_fits x.fit s a g h) j
    ∙ set_of_cong x.n _ _ (λ t _. any_cong x.n _ _
    (λ s g. ap (λ (b : Bool). has set s && b) (sym (edge_is x.n x.m starts x.sets.now s a t g h))))

-- a step looks at the members below n alone
pub step_members : (S : Semiautomaton) (X : ℕ → Bool) (a : ℕ) (t : ℕ) → step S (has (set_of S.n X)) a t ≡ step S X a t
unfolding step
step_members S X a t = any_cong S.n _ _ (λ s g. rw (has_set_of, lt-ltb s S.n g))

-- .. and so does a word
pub reach_members : (S : Semiautomaton) (X : ℕ → Bool) (w : List ℕ)
    → set_of S.n (reach S (has (set_of S.n X)) w) ≡ set_of S.n (reach S X w)
reach_members S X [] = set_of_has S.n _ (set_of_lt S.n X)
reach_members S X (a ∷ w) = ap (λ (Y : ℕ → Bool). set_of S.n (reach S Y w)) (fun_ext (step_members S X a))
