-- What successor sets mean, as code has them.
-- Assumes nothing.
use Rattle.semiautomata.specs.Semiautomaton.{Semiautomaton}
use Rattle.semiautomata.specs.Successors.{successors}
use Rattle.semiautomata.specs.declared.successors.Successors.{Successors}

abbrev pub means : Successors → Semiautomaton
means x = successors x.n x.m x.starts x.sets.now
