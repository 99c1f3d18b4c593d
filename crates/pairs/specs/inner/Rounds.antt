-- What the functions of a round promise each other.
-- Assumes nothing.
use Rattle.std.specs.Prelude.{ℕ, suc, ◌^◌, ◌<◌, Bool, true, false, not, ◌&&◌, ◌||◌, ◌⊎◌, ◌≡◌, List, leb, ltb, get_or, replicate}
use Rattle.bitset.specs.Sets.{any}
use Rattle.bitset.specs.Numbers.{has, set_of}
use Rattle.semiautomata.specs.Semiautomaton.{Semiautomaton}
use Rattle.semiautomata.specs.Walks.{step}
use Rattle.semiautomata.specs.Sizes.{max_states, max_sets}
use Rattle.semiautomata.specs.Successors.{set_at, Blank}
use Rattle.semiautomata.specs.Means.{means}
use Rattle.semiautomata.specs.declared.successors.Successors.{Successors}
use Rattle.rows.specs.Rows.{pair, Without}
use Rattle.rows.specs.Turned.{Turned}
use Rattle.pairs.specs.Sharing.{leads, Level, LastLevel}

-- no row has a state n or higher
abbrev pub Fits : ℕ → List ℕ → Type 0
Fits n rows = (s : ℕ) → s < n → get_or rows s 0 < 2 ^ n

-- rows with every pair of states below n
abbrev pub every_pair : ℕ → List ℕ
every_pair n = replicate max_states (set_of max_states (λ t. ltb t n))

-- the states below k that letter a leads on
abbrev pub led_on : Semiautomaton → (k a : ℕ) → ℕ
led_on S k a = set_of k (λ s. any S.n (S.edge s a))

-- a pair that is looked at and led on to no live pair
abbrev pub dying : Semiautomaton → List ℕ → List ℕ → ℕ → ℕ → Bool
dying S alive look s t = pair look s t && pair alive s t && not (leads S alive s t)

-- it is tested with its higher state first
abbrev pub falls : Semiautomaton → List ℕ → List ℕ → ℕ → ℕ → Bool
falls S alive look s t = leb t s && dying S alive look s t

-- what a round strikes by the tests of the rows below k: the pairs that fall, in both orders; `gone` has their lower states
pub record Struck (S : Semiautomaton) (alive look struck : List ℕ) (gone k : ℕ) : Type 0 where
  pub both : (s t : ℕ) → s < k → falls S alive look s t ≡ true → (pair struck s t ≡ true) × (pair struck t s ≡ true)
  pub only : (s t : ℕ) → pair struck s t ≡ true
      → ((s < k) × (falls S alive look s t ≡ true)) ⊎ ((t < k) × (falls S alive look t s ≡ true))
  pub some : (t : ℕ) → has gone t ≡ any k (λ s. falls S alive look s t)

-- the sets F i are paired with the sets G i, for i below k
pub record Paired (old new : List ℕ) (F G : ℕ → ℕ) (k : ℕ) : Type 0 where
  pub is : (s t : ℕ) → pair new s t ≡ (pair old s t || any k (λ i. has (F i) s && has (G i) t))

-- each pair that some letter leads to s and a state of the set is looked at too
abbrev pub Woken : (back : Successors) (s set : ℕ) (old new : List ℕ) → Type 0
Woken back s set old new =
    Paired old new (set_at back.m back.sets.now s) (λ a. set_of back.n (step (means back) (has set) a)) back.m

-- each pair that some letter leads to a struck pair of the rows below k is looked at
pub record Waking (back : Successors) (struck look : List ℕ) (k : ℕ) : Type 0 where
  pub wakes : (s t a x y : ℕ) → s < k → pair struck s t ≡ true → a < back.m
      → has (set_at back.m back.sets.now s a) x ≡ true → has (set_at back.m back.sets.now t a) y ≡ true → pair look x y ≡ true

-- A ROUND

-- a round has struck exactly the pairs that share a word of j letters and none of more; `gone` is 0 where there is none
pub record Ends (S : Semiautomaton) (j : ℕ) (struck : List ℕ) (gone : ℕ) : Type 0 where
  pub last : LastLevel S j struck
  pub fits : Fits S.n struck
  pub none : gone ≡ 0 → (s t : ℕ) → s < S.n → t < S.n → pair struck s t ≡ false
  pub some : ¬ (gone ≡ 0) → (s : ℕ) × (t : ℕ) × (s < S.n) × (t < S.n) × (pair struck s t ≡ true)

-- what holds before each round: what it will strike is known, and the table is turned round once the first is over
pub record At (x : Successors) (rows struck back : List ℕ) (gone j : ℕ) : Type 0 where
  pub level : Level (means x) j rows
  pub ends : Ends (means x) j struck gone
  pub fresh : j ≡ 0 → Blank max_sets back
  pub turned : 0 < j → Turned x back

-- after so many rounds the struck pairs are taken out of the rows
pub record Standing (x : Successors) (rounds : ℕ) (live back struck : List ℕ) : Type 0 where
  pub last : ℕ
  pub rows : List ℕ
  pub gone : ℕ
  pub at : At x rows struck back gone last
  pub left : Without rows struck live x.n
  pub next : rounds ≡ suc last
