-- Demand 3 of the user's terms, of the letters offered to a freshly opened walk and the replies to them, and of nothing else.
-- Assumes nothing.
use Rattle.std.specs.Prelude.{ℕ, suc, ◌+◌, ◌≤◌, Bool, true, ◌≡◌, List, [], ◌∷◌, leb, length}
use Rattle.semiautomata.specs.Lists.{range, collect}
use Rattle.semiautomata.specs.Semiautomaton.{Semiautomaton}
use Rattle.semiautomata.specs.Walks.{Only}
use Rattle.streaming.specs.Calls.{Reply, refused, resolved, nothing}
use Rattle.streaming.specs.PlainWalk.{plain, plain_taken}

-- The letters taken: those offered whose reply is no refusal.
abbrev pub accepted : List ℕ → List Reply → List ℕ
accepted [] rs = []
accepted (a ∷ more) [] = []
accepted (a ∷ more) (refused r ∷ rs) = accepted more rs
accepted (a ∷ more) (resolved i x ∷ rs) = a ∷ accepted more rs
accepted (a ∷ more) (nothing ∷ rs) = a ∷ accepted more rs

-- The same where the first reply is the opening's.
abbrev pub taken : List ℕ → List Reply → List ℕ
taken offered [] = []
taken offered (opening ∷ rs) = accepted offered rs

-- A resolution (booking): the number of letters taken when it was answered, the position, the state.
pub record Resolution : Type 0 where
  pub arrived : ℕ
  pub position : ℕ
  pub state : ℕ

-- The resolutions among the replies to letters, where i are taken before the first of them.
abbrev pub resolutions_from : ℕ → List Reply → List Resolution
resolutions_from i [] = []
resolutions_from i (refused r ∷ rs) = resolutions_from i rs
resolutions_from i (resolved p x ∷ rs) = record { arrived = suc i; position = p; state = x } ∷ resolutions_from (suc i) rs
resolutions_from i (nothing ∷ rs) = resolutions_from (suc i) rs

-- All of them, the opening's first, at which no letter is taken.
abbrev pub resolutions : List Reply → List Resolution
resolutions [] = []
resolutions (refused r ∷ rs) = resolutions_from 0 rs
resolutions (resolved p x ∷ rs) = record { arrived = 0; position = p; state = x } ∷ resolutions_from 0 rs
resolutions (nothing ∷ rs) = resolutions_from 0 rs

-- Position i of the walk w is followed by k or more letters.
unfoldable pub followed : ℕ → List ℕ → ℕ → Bool
followed k w i = leb (i + k) (length w)

-- Position i with its state, answered when the k-th later letter arrives.
abbrev pub resolution : ℕ → (ℕ → ℕ) → ℕ → Resolution
resolution k state i = record { arrived = i + k; position = i; state = state i }

-- The positions of w that are followed by k or more letters, each once, in order.
abbrev pub due : ℕ → List ℕ → (ℕ → ℕ) → List Resolution
due k w state = collect (followed k w) (resolution k state) (range 0 (suc (length w)))

-- No refusal among the replies but 11, 12 and 13.
abbrev pub Only11to13 : List Reply → Type 0
Only11to13 [] = Unit {0}
Only11to13 (refused r ∷ rs) = (11 ≤ r) × (r ≤ 13) × Only11to13 rs
Only11to13 (resolved i x ∷ rs) = Only11to13 rs
Only11to13 (nothing ∷ rs) = Only11to13 rs

pub record Demand3 (S : Semiautomaton) (k : ℕ) (offered : List ℕ) (replies : List Reply) : Type 0 where
  -- opening was not refused: there is an initial state
  pub start : ℕ
  pub opens : S.initial start ≡ true
  -- opening and every letter are answered as the plain walk answers at that call
  pub as_plain : replies ≡ plain S k offered
  -- the letters taken are those that the plain walk takes
  pub same_letters : taken offered replies ≡ plain_taken S k offered
  -- each position followed by k or more of them has exactly one possible state in the whole walk they make
  pub state : ℕ → ℕ
  pub one : (i : ℕ) → followed k (taken offered replies) i ≡ true → Only S (taken offered replies) i (state i)
  -- the resolutions answered, the opening's included, are exactly these positions with these states, each once, in order, when the
  -- k-th later letter arrives (on arrival if k is 0)
  pub resolves : resolutions replies ≡ due k (taken offered replies) state
