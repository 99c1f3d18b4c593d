-- What can be walked has letters below m only; so a word with another letter leads nowhere.
-- Assumes nothing.
use Prim.Native.Nat.{ℕ}
use mathlib.Core.Bool.{Bool, true}
use mathlib.Core.Path.{◌≡◌, sym, ◌∙◌}
use mathlib.Core.List.{List}
use lib.Pow.{pow_pos}
use Rattle.bitset.specs.Numbers.{has, set_of}
use Rattle.bitset.proofs.Tests.{not_so}
use Rattle.bitset.proofs.Bits.{has_empty, is_set_of}
use Rattle.semiautomata.specs.Semiautomaton.{Semiautomaton, Within}
use Rattle.semiautomata.specs.Walks.{reach}
use Rattle.semiautomata.specs.Successors.{successors}
use Rattle.semiautomata.specs.Means.{means}
use Rattle.semiautomata.specs.declared.successors.Successors.{Successors}
use Rattle.semiautomata.proofs.Paths.{path_letters}
use Rattle.semiautomata.proofs.Computed.{reach_out}
use Rattle.walks.specs.Walking.{letter_off, Letters}
use Rattle.walks.proofs.Letters.{letters_stray}
use Rattle.walks.proofs.Steps.{means_within, reach_any}

pub reach_letters : (S : Semiautomaton) → Within S → (X : ℕ → Bool) (w : List ℕ) (t : ℕ) → reach S X w t ≡ true → Letters S.m w
reach_letters S W X w t e = let (s, _, p) = reach_out S X w t e in record { below = path_letters S W w s t p }

-- a word with a letter off leads nowhere
pub stray_none : (x : Successors) (set : ℕ) (w : List ℕ) → letter_off x.m w ≡ true → (starts : ℕ)
    → 0 ≡ set_of x.n (reach (successors x.n x.m starts x.sets.now) (has set) w)
stray_none x set w e starts =
    rw (reach_any x.n x.m starts x.starts x.sets.now (has set) w)
    (is_set_of x.n _ 0 (pow_pos x.n)
    (λ t _. has_empty t ∙ sym (not_so _ (λ d. letters_stray x.m w e (reach_letters (means x) (means_within x) (has set) w t d)))))
