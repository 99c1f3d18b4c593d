-- The plain walk of document 01. Its state is the list of letters taken, empty at opening.
-- Assumes nothing.
use Rattle.std.specs.Prelude.{ℕ, ◌-◌, not, cond, List, [], ◌∷◌, ◌++◌, ltb, leb, length}
use Rattle.bitset.specs.Sets.{least}
use Rattle.semiautomata.specs.Semiautomaton.{Semiautomaton}
use Rattle.semiautomata.specs.Walks.{walkable, possible}
use Rattle.streaming.specs.Calls.{Reply, resolved, nothing, Result, checked, replies, final}
use Rattle.refusals.specs.Checks.{Check}

-- So many letters are taken at the most.
unfoldable pub limit : ℕ
limit = 1000000

-- The one possible state at position i of a walk w that is on the plan (the least if there were more, n if there were none).
unfoldable pub state_at : Semiautomaton → List ℕ → ℕ → ℕ
state_at S w i = least S.n (possible S S.initial w i)

-- The reply once the letters w are taken: if there are k or more, position (length w - k) with its one possible state.
unfoldable pub plain_reply : Semiautomaton → ℕ → List ℕ → Reply
plain_reply S k w = cond (ltb (length w) k) nothing (resolved (length w - k) (state_at S w (length w - k)))

-- 11 if so many are taken; else 12 if the letter is not below m; else 13 if no initial state can walk the letters taken and then this one.
abbrev pub plain_checks : Semiautomaton → List ℕ → ℕ → List Check
plain_checks S w a =
    record { number = 11; applies = leb limit (length w) }
    ∷ record { number = 12; applies = leb S.m a }
    ∷ record { number = 13; applies = not (walkable S S.initial (w ++ (a ∷ []))) }
    ∷ []

unfoldable pub plain_feed : Semiautomaton → ℕ → List ℕ → ℕ → Result (List ℕ)
plain_feed S k w a = checked (plain_checks S w a) w (record { reply = plain_reply S k (w ++ (a ∷ [])); state = w ++ (a ∷ []) })

-- The replies to opening and to the letters offered, and the letters taken, where there is an initial state to open with.
abbrev pub plain : Semiautomaton → ℕ → List ℕ → List Reply
plain S k offered = plain_reply S k [] ∷ replies (plain_feed S k) [] offered

abbrev pub plain_taken : Semiautomaton → ℕ → List ℕ → List ℕ
plain_taken S k offered = final (plain_feed S k) [] offered
