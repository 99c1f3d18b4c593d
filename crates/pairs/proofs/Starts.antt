-- Shared words do not depend on the initial states: what is proved of successor sets with some holds with any others.
-- Assumes nothing.
use Prim.Native.Nat.{ℕ}
use mathlib.Core.List.{List}
use Rattle.semiautomata.specs.Predictability.{Share}
use Rattle.semiautomata.specs.Successors.{successors}
use Rattle.walks.proofs.Steps.{path_any}

pub share_starts : (n m : ℕ) (sets : List ℕ) (old new : ℕ) {j s t : ℕ}
    → Share (successors n m old sets) j s t → Share (successors n m new sets) j s t
share_starts n m sets old new {s = s} {t = t} h = record {
  word = h.word;
  long = h.long;
  left = let (x, p) = h.left in (x, path_any n m old new sets h.word s x p);
  right = let (x, p) = h.right in (x, path_any n m old new sets h.word t x p);
}
