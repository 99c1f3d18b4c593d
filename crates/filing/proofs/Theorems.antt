-- The theorems of specs/Theorems.antt.
-- Assumes nothing.
use Prim.Native.Nat.{ℕ, ◌≤◌}
use mathlib.Core.Path.{◌≡◌, sym, ◌∙◌, ap}
use mathlib.Core.List.{List}
use lib.ListN.{length}
use borrow.Author.Tests.{le-ltb}
use Rattle.slices.specs.Copying.{at_front}
use Rattle.plan.specs.declared.Header.{Header}
use Rattle.plan.specs.Plan.{Plan}
use Rattle.plan.specs.Bytes.{parsed, unnamed, WellFormed, counts_of}
use Rattle.plan.proofs.Asked.{refused_passing}
use Rattle.plan.proofs.Refusals.{unnamed_proper}
use Rattle.plan.proofs.Readings.{loaded_counts}
use Rattle.refusals.specs.declared.Refusal.{Refusal}
use Rattle.std.specs.Prelude.{Result, Ok, Err}
use Rattle.filing.specs.Filed.{filed}
use Rattle.filing.specs.Writing.{write_refusal, short_filed, Writes}
use Rattle.filing.specs.Theorems.{SameParts, Theorems}
use Rattle.filing.proofs.Passing.{same_meaning, passes}
use Rattle.filing.proofs.Form.{filed_same, FormOf, form_most, written_form}

same_both : {P Q R : Plan} → SameParts P Q → SameParts P R → SameParts Q R
same_both q r = record { starts = λ s. sym (q.starts s) ∙ r.starts s; lines = λ l. sym (q.lines l) ∙ r.lines l }

module _ {plan bytes : List ℕ} (f : FormOf plan bytes) where
  edition_kept : (parsed bytes).edition ≡ (parsed plan).edition
  edition_kept = ap (λ (h : Header). h.edition) f.header

  n_kept : (parsed bytes).n ≡ (parsed plan).n
  n_kept = ap (λ (h : Header). h.n) f.header

  m_kept : (parsed bytes).m ≡ (parsed plan).m
  m_kept = ap (λ (h : Header). h.m) f.header

  form_passes : WellFormed bytes
  form_passes = passes plan bytes f.header f.parts f.well f.long f.order

  -- the form of the form
  filed_again : filed bytes ≡ bytes
  filed_again = filed_same bytes plan edition_kept n_kept m_kept f.parts ∙ sym f.is

  written_again : (a : Result ℕ Refusal) (old out : List ℕ) → Writes bytes a old out → length bytes ≤ length old
      → (a ≡ Ok (length bytes)) × (out ≡ at_front bytes old)
  written_again (Ok count) old out (_, (c, o)) h =
      (ap Ok (c ∙ ap length filed_again), o ∙ ap (λ (b : List ℕ). at_front b old) filed_again)
  written_again (Err r) old out (e, n, _) h =
      let clear : write_refusal bytes (length old) ≡ 0 =
      refused_passing (unnamed bytes) (unnamed_proper bytes) form_passes (short_filed bytes (length old))
      ∙ rw (filed_again, le-ltb (length old) (length bytes) h) in
      absurd (n (e ∙ clear))

pub theorems : Theorems
theorems = record {
  reads = λ plan bytes w. let f = written_form plan bytes w in sym (loaded_counts bytes (form_passes f) (ap counts_of f.header));
  means = λ plan bytes w. let f = written_form plan bytes w in same_meaning plan bytes f.header f.parts;
  parts = λ plan bytes w. (written_form plan bytes w).parts;
  order = λ plan bytes w. (written_form plan bytes w).order;
  header = λ plan bytes w. let f = written_form plan bytes w in (f.header, f.long);
  most = λ plan bytes w. form_most (written_form plan bytes w);
  equal = λ plan bytes plan' bytes' w w'.
      let f = written_form plan bytes w in
      let f' = written_form plan' bytes' w' in (
        λ e. (
          sym (edition_kept f) ∙ ap (λ (b : List ℕ). (parsed b).edition) e ∙ edition_kept f',
          sym (n_kept f) ∙ ap (λ (b : List ℕ). (parsed b).n) e ∙ n_kept f',
          sym (m_kept f) ∙ ap (λ (b : List ℕ). (parsed b).m) e ∙ m_kept f',
          same_both f.parts (rw e f'.parts),
        ),
        λ (edition, n, m, same). f.is ∙ filed_same plan plan' edition n m same ∙ sym f'.is,
      );
  again = λ plan bytes w. written_again (written_form plan bytes w);
}
