-- What the head of a table says: refusal 8 applies, or the table is fit and these are its numbers.
-- Assumes nothing.
use Rattle.std.specs.Prelude.{ℕ, true, false, ◌≡◌, List, Result, Ok, Err}
use Rattle.refusals.specs.declared.Refusal.{Refusal}
use Rattle.refusals.specs.declared.Refusal.TheVariants as refusal
use Rattle.table.specs.declared.Head.{Head}
use Rattle.table.specs.Table.{states_of, letters_of, lookahead_of, initial_of, sets_of, unfit}

-- The head of a fit table: n, m, the set of initial states and the successor sets, and k.
pub record Headed (table : List ℕ) (head : Head) : Type 0 where
  pub sound : unfit table ≡ false
  pub n_is : head.succ.n ≡ states_of table
  pub m_is : head.succ.m ≡ letters_of table
  pub starts_is : head.succ.starts ≡ initial_of table
  pub sets_are : head.succ.sets.now ≡ sets_of table
  pub k_is : head.k ≡ lookahead_of table

-- What reading the head gives.
abbrev pub Heads : List ℕ → Result Head Refusal → Type 0
Heads table (Ok head) = Headed table head
Heads table (Err r) = (unfit table ≡ true) × (r ≡ refusal.Table)
