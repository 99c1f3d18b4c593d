-- Calls that keep a state: what a call replies and leaves, its refusals in order, and a list of calls one after the other.
-- Assumes nothing.
use Rattle.std.specs.Prelude.{ℕ, cond, List, [], ◌∷◌}
use Rattle.refusals.specs.Checks.{Check}

-- The reply of opening or of a letter fed: a refusal's number, a resolved position and its state (a booking), or that none was resolved.
pub data Reply : Type 0 where
  refused : ℕ → Reply
  resolved : ℕ → ℕ → Reply
  nothing : Reply

-- What a call gives: its reply, and the state that it leaves.
pub record Result (A : Type 0) : Type 0 where
  pub reply : Reply
  pub state : A

-- A call with its refusals in order: the first that applies is the reply and leaves the state; where none applies, the call gives `done`.
abbrev pub checked : {A : Type 0} → List Check → A → Result A → Result A
checked [] state done = done
checked (c ∷ cs) state done = cond c.applies (record { reply = refused c.number; state = state }) (checked cs state done)

-- The replies to letters offered one after the other, and the state after them.
abbrev pub replies : {A : Type 0} → (A → ℕ → Result A) → A → List ℕ → List Reply
replies f s [] = []
replies f s (a ∷ rest) = (f s a).reply ∷ replies f (f s a).state rest

abbrev pub final : {A : Type 0} → (A → ℕ → Result A) → A → List ℕ → A
final f s [] = s
final f s (a ∷ rest) = final f (f s a).state rest
