-- What the steps of preparing and counting promise each other.
-- Assumes nothing.
use Rattle.std.specs.Prelude.{[]}
use Rattle.semiautomata.specs.Semiautomaton.{Semiautomaton}
use Rattle.plan.specs.Asked.{Asked}

-- Nothing is checked, and S is meant.
abbrev pub unchecked : Semiautomaton → Asked
unchecked S = record { checks = []; means = S }
