-- What follows of fit tables and of the prepared form; proofs/Theorems.antt has the proofs.
-- Assumes nothing.
use Rattle.std.specs.Prelude.{false, List, ◌++◌, ◌≡◌, ℕ, ◌+◌, ◌*◌, length}
use Rattle.table.specs.Table.{sets_from, unfit, Contents, contents_of, table_of, laid_out, Preparable}

pub record Theorems (table : List ℕ) : Type 0 where
  -- what a fit table means has the sizes of a plan and lies within its states and letters, and its look-ahead is not too great
  pub preparable : unfit table ≡ false → Preparable (contents_of table)
  -- a fit table is the prepared form of what it holds, and what stands behind it: no two forms hold the same
  pub one_form : unfit table ≡ false → table ≡ laid_out (contents_of table) table
  -- a table that begins with a form is fit, and holds what the form was made of
  pub form_read : (C : Contents) → Preparable C → (rest : List ℕ) → table ≡ table_of C ++ rest
      → (unfit table ≡ false) × (contents_of table ≡ C)
  -- the form has 4 + n × m numbers
  pub form_length_lem : (C : Contents) → length (table_of C) ≡ sets_from + C.means.n * C.means.m
