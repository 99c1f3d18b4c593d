-- Accessible states (W-202: the stakes that some walk from a start reaches) as a test that computes; a semiautomaton without the others.
-- Assumes nothing.
use Rattle.std.specs.Prelude.{ℕ, zero, suc, Bool, ◌&&◌, ◌||◌}
use Rattle.bitset.specs.Sets.{any}
use Rattle.semiautomata.specs.Semiautomaton.{Semiautomaton}

-- at most j letters lead to q from an initial state
unfoldable pub accessible_by : Semiautomaton → ℕ → ℕ → Bool
accessible_by S zero q = S.initial q
accessible_by S (suc j) q =
    accessible_by S j q || any S.m λ a. any S.n λ p. let before = accessible_by S j p in S.edge p a q && before

-- some word leads to q from an initial state: no more than n letters are needed
unfoldable pub accessible : Semiautomaton → ℕ → Bool
accessible S q = accessible_by S S.n q

-- S without its unreachable states: their edges are taken out, so that they are in no critical set and on no path from one. The numbers
-- of the others stay.
abbrev pub trim : Semiautomaton → Semiautomaton
trim S = record { n = S.n; m = S.m; initial = S.initial; edge = λ q a t. accessible S q && S.edge q a t }
