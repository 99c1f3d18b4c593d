-- What is printed, put together for each case.
-- Assumes nothing.
use Prim.Native.Nat.{ℕ, ◌+◌, ◌≤◌}
use mathlib.Core.Bool.{true, false}
use mathlib.Core.Path.{◌≡◌, refl, sym, ◌∙◌}
use mathlib.Core.List.{List}
use native.Mathlib.Decide.{ℕ_discrete}
use native.Mathlib.Omega.{arith}
use lib.ListN.{length}
use borrow.Author.Tests.{le-ltb}
use Rattle.std.specs.Prelude.{Result, Ok, Err}
use Rattle.refusals.specs.Named.{number_of}
use Rattle.refusals.specs.declared.Refusal.{Refusal}
use Rattle.refusals.specs.declared.Refusal.TheVariants.{Size}
use Rattle.slices.specs.Copying.{at_front}
use Rattle.slices.specs.Appending.{Appended}
use Rattle.plan.specs.Asked.{refusal_of, Passes}
use Rattle.plan.specs.Bytes.{asked, refusal}
use Rattle.plan.proofs.Asked.{clear_passes, refused_passing, unread}
use Rattle.plan.proofs.Refusals.{asked_proper, asked_zero, number_some}
use Rattle.inputs.specs.Inputs.{plan_of, no_plan}
use Rattle.lines.specs.Lines.{refused_line}
use Rattle.pages.specs.Page.{page, max_page}
use Rattle.pages.specs.Paging.{PageOf}
use Rattle.pages.proofs.Theorems.{most}
use Rattle.page.specs.Printing.{input_refusal, refused, shown, Prints, Paged}

-- from the front on
appended_at_front : {old xs out : List ℕ} {r : ℕ} → length xs ≤ length old → r ≡ length xs → out ≡ at_front xs old → Appended old 0 xs r out
appended_at_front {old} {xs} h e is =
    let z : 0 + length xs ≡ length xs = omega arith in
    record { room = record { fits = omega arith }; end = e ∙ sym z; is = is ∙ rw z }

refused_by : (input : List ℕ) → no_plan input ≡ false → input_refusal input ≡ refusal (plan_of input)
unfolding input_refusal
refused_by input e = rw e

module _ (input : List ℕ) {old : List ℕ} where
  pub no_plan_paged : no_plan input ≡ true → Paged input (Err Size) old old
  unfolding input_refusal
  no_plan_paged e = (rw e, refl)

  -- so many bytes are enough for every page: what is refused is the plan
  pub plan_paged : no_plan input ≡ false → max_page ≤ length old → (a : Result ℕ Refusal) {out : List ℕ} → PageOf (asked (plan_of input) 0) a old out
      → Paged input a old out
  plan_paged e l (Ok count) {out} p =
      let (z, (c, is)) = p.gives in
      let A = asked (plan_of input) 0 in
      let P = asked_proper (plan_of input) 0 in
      let w : Passes A = clear_passes A P _ z in
      let text = page A.means p.numbers in
      record {
        text = text;
        shows = shown (refused_by input e ∙ sym (asked_zero (plan_of input)) ∙ w) p.numbers (p.tells w);
        put = appended_at_front (omega (arith, most (P.sized w) (p.tells w), l)) c is;
      }
  plan_paged e l (Err r) p =
      let (is, n, kept) = p.gives in
      let A = asked (plan_of input) 0 in
      let P = asked_proper (plan_of input) 0 in
      elim (ℕ_discrete (refusal_of A) 0) [
        | yes w ↦
            let fits = most (P.sized w) (p.tells w) in
            absurd (n (is ∙ refused_passing A P w _ ∙ rw (le-ltb (length old) (length (page A.means p.numbers)) (omega (arith, fits, l)))))
        | no m ↦ (is ∙ sym (unread A P refl m _) ∙ asked_zero (plan_of input) ∙ sym (refused_by input e), kept)
      ]

  -- the line of a refusal
  pub line_printed : (r : Refusal) → number_of r ≡ input_refusal input → {number : ℕ} → number ≡ number_of r → {count : ℕ} {out : List ℕ}
      → Appended old 0 (refused_line number) count out → Prints input old count out
  line_printed r is e p = record {
    text = refused_line (number_of r);
    shows = rw is (refused (λ z. number_some r (is ∙ z)));
    put = rw e at p;
  }
