-- What the parts of a verdict promise: the same as tests that compute.
-- Assumes nothing.
use Rattle.std.specs.Prelude.{ℕ, ◌^◌, ◌<◌, Bool, not, ◌&&◌, ◌≡◌, List, [], ◌∷◌, ◌++◌, Result, Ok, Err}
use Rattle.std.proofs.Math.Option.{some, none}
use Rattle.bitset.specs.Sets.{any}
use Rattle.bitset.specs.Numbers.{has, set_of}
use Rattle.semiautomata.specs.Semiautomaton.{Semiautomaton}
use Rattle.semiautomata.specs.Predictability.{Critical, member, named}
use Rattle.semiautomata.specs.Walks.{spells, survivors}
use Rattle.semiautomata.specs.Selectors.{minimal_selector, maximal_nonselector}
use Rattle.refusals.specs.declared.Refusal.{Refusal}
use Rattle.refusals.specs.declared.Refusal.TheVariants.{Letter}
use Rattle.simulate.specs.declared.Verdict.{Verdict}

-- no longer word that begins with w is in R(t)
abbrev pub ends : Semiautomaton → List ℕ → ℕ → Bool
ends S w t = not (any S.m (λ a. spells S (w ++ (a ∷ [])) t))

-- the members of a set of which that holds
abbrev pub ending_in : Semiautomaton → ℕ → List ℕ → ℕ
ending_in S set w = set_of S.n (λ t. has set t && ends S w t)

-- the verdict on a word for the states of X
pub record Computes (S : Semiautomaton) (X : ℕ → Bool) (word : List ℕ) (v : Verdict) : Type 0 where
  pub survivors : v.survivors ≡ set_of S.n (survivors S X word)
  pub minimal : v.minimal ≡ minimal_selector S X word
  pub nonselected : v.nonselected ≡ set_of S.n (maximal_nonselector S X word)

-- what naming a critical set gives: the set of its states; 12 where the numbers name none
abbrev pub Names : Semiautomaton → ℕ → ℕ → Result ℕ Refusal → Type 0
Names S q a (Ok set) = (set < 2 ^ S.n) × (T : Critical) × (named S q a ≡ some T) × (has set ≡ member S T)
Names S q a (Err r) = (named S q a ≡ none) × (r ≡ Letter)
