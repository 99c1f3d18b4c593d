-- What the head of a table tells of what it means.
-- Assumes nothing.
use mathlib.Core.Path.{◌≡◌}
use mathlib.Core.List.{List}
use Prim.Native.Nat.{ℕ, ◌-◌, ◌≤◌}
use native.Mathlib.Omega.{arith}
use lib.ListN.{length, take, drop, length-drop}
use lib.Seq.{take_all}
use Rattle.semiautomata.specs.Means.{means}
use Rattle.semiautomata.specs.Sizes.{max_lookahead}
use Rattle.table.specs.declared.Head.{Head}
use Rattle.table.specs.Table.{sets_from, sets_of, table_meaning}
use Rattle.table.specs.Heads.{Headed}
use Rattle.table.proofs.Fitness.{Fitting, fitting, lookahead_le}

-- the sets, as code lends them on
pub lent : (table : List ℕ) → take (length table - sets_from) (drop sets_from table) ≡ sets_of table
lent table = take_all (length table - sets_from) (drop sets_from table) (rw length-drop (omega arith))

module _ {table : List ℕ} {head : Head} (h : Headed table head) where
  pub head_means : means head.succ ≡ table_meaning table
  head_means = rw (h.n_is, h.m_is, h.starts_is, h.sets_are)

  pub head_fits : Fitting table
  head_fits = fitting table h.sound

  pub head_lookahead : head.k ≤ max_lookahead
  head_lookahead = omega (arith, h.k_is, lookahead_le head_fits)
