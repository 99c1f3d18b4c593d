-- What the walks over successor sets promise of the words and buffers that they are lent.
-- Assumes nothing.
use Rattle.std.specs.Prelude.{ℕ, suc, ◌≤◌, ◌<◌, Bool, ◌≡◌, List, leb, length, get_or, drop}
use Rattle.bitset.specs.Sets.{any}
use Rattle.bitset.specs.Numbers.{has, set_of}
use Rattle.semiautomata.specs.Successors.{set_at}

-- some letter of the word is not below m, wherever it stands.
abbrev pub letter_off : ℕ → List ℕ → Bool
letter_off m word = any (length word) (λ i. leb m (get_or word i 0))

-- every letter of the word is below m
pub record Letters (m : ℕ) (word : List ℕ) : Type 0 where
  pub below : (i : ℕ) → i < length word → get_or word i 0 < m

-- the sets f 0 to f (length word) stand at the front of a buffer that keeps its rest
pub record Written (n : ℕ) (word : List ℕ) (f : ℕ → ℕ → Bool) (old out : List ℕ) : Type 0 where
  pub sets : (i : ℕ) → i ≤ length word → get_or out i 0 ≡ set_of n (f i)
  pub kept : drop (suc (length word)) out ≡ drop (suc (length word)) old

-- the states that some letter below i leads to from s
abbrev pub led_by : ℕ → List ℕ → ℕ → ℕ → ℕ → Bool
led_by m sets s i t = any i (λ a. has (set_at m sets s a) t)
