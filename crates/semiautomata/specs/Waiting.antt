-- Waiting (W-203): how many later letters make a position certain, said of walks alone and of no critical set.
-- Assumes nothing.
use Rattle.std.specs.Prelude.{ℕ, ◌+◌, ◌≤◌, ◌≡◌, List, length}
use Rattle.semiautomata.specs.Such.{LeastSuch, TwoSuch}
use Rattle.semiautomata.specs.Semiautomaton.{Semiautomaton}
use Rattle.semiautomata.specs.Walks.{OnPlan, PossibleAt, Only}

-- A word (walk) with a position that exactly j letters (legs) follow; from an initial state (start), wholly on the plan; and with at least
-- two possible states at that position.
pub record InDoubt (S : Semiautomaton) (j : ℕ) : Type 0 where
  pub word : List ℕ
  pub position : ℕ
  pub later : position + j ≡ length word
  pub on_plan : OnPlan S word
  pub two : TwoSuch (PossibleAt S word position)

-- Every position of every word on the plan that j or more letters follow has exactly one possible state.
abbrev pub Certain : Semiautomaton → ℕ → Type 0
Certain S j = (w : List ℕ) (i : ℕ) → OnPlan S w → i + j ≤ length w → (x : ℕ) × Only S w i x

-- The least number of letters that make every position certain.
abbrev pub LeastWait : Semiautomaton → ℕ → Type 0
LeastWait S = LeastSuch (Certain S)
