-- The theorems of specs/Theorems.antt.
-- Assumes nothing.
use Prim.Native.Nat.{ℕ}
use mathlib.Core.Bool.{false}
use mathlib.Core.List.{List}
use mathlib.Core.Path.{◌≡◌}
use Rattle.table.specs.Table.{unfit, contents_of, Preparable}
use Rattle.table.specs.Theorems.{Theorems}
use Rattle.table.proofs.Fitness.{fitting}
use Rattle.table.proofs.Form.{form_length_lem, one_form, form_reads, reads_contents}

preparable : (table : List ℕ) → unfit table ≡ false → Preparable (contents_of table)
preparable table e =
    let f = fitting table e in record {
      sized = record { n_low = f.some_state; n_high = f.states; m_low = f.some_letter; m_high = f.letters; within = f.within };
      lookahead = f.lookahead;
    }

pub theorems : (table : List ℕ) → Theorems table
theorems table = record {
  preparable = preparable table;
  one_form = λ e. one_form (fitting table e);
  form_read = λ C P rest e. let r = form_reads rest P e in (r.fit, reads_contents r);
  form_length_lem = form_length_lem;
}
