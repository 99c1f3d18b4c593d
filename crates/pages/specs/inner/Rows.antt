-- The lines of fork sets by numbers and successor sets, as they are put.
-- Assumes nothing.
use Rattle.std.specs.Prelude.{ℕ, ◌+◌, List, get_or}
use Rattle.bitset.specs.Sets.{size}
use Rattle.bitset.specs.Numbers.{has}
use Rattle.slices.specs.Appending.{each}
use Rattle.semiautomata.specs.Predictability.{fork}
use Rattle.semiautomata.specs.Successors.{place, set_at}
use Rattle.pages.specs.Page.{shown_of}

-- how many states a set has
abbrev pub states : ℕ → ℕ
states set = size 64 (has set)

-- what is put of a state's fork sets: of those of the first so many letters, and of all
abbrev pub row_to : ℕ → List ℕ → List ℕ → ℕ → ℕ → List ℕ
row_to m numbers sets q count = each count (λ a. shown_of (fork q a) (get_or numbers (place m q a + 1) 0) (states (set_at m sets q a)))

abbrev pub row_shown : ℕ → List ℕ → List ℕ → ℕ → List ℕ
row_shown m numbers sets q = row_to m numbers sets q m
