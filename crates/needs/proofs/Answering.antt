-- The promise of the call, put together for each case of its answer.
-- Assumes nothing.
use Prim.Native.Nat.{ℕ, ◌≤◌, ◌<◌}
use mathlib.Core.Path.{◌≡◌, refl, sym, ◌∙◌}
use mathlib.Core.List.{List}
use lib.ListN.{length}
use borrow.Author.Tests.{lt-ltb, le-ltb}
use Rattle.std.specs.Prelude.{Ok, Err}
use Rattle.semiautomata.specs.Semiautomaton.{Semiautomaton}
use Rattle.refusals.specs.Named.{number_of}
use Rattle.refusals.specs.declared.Refusal.{Refusal}
use Rattle.refusals.specs.declared.Refusal.TheVariants.{Room}
use Rattle.plan.specs.Asked.{Asked, refusal_of, Passes, Proper}
use Rattle.plan.proofs.Asked.{refused_passing, unread}
use Rattle.plan.proofs.Refusals.{number_some}
use Rattle.needs.specs.Needs.{entries, Filled, NeedsOf}

module _ (A : Asked) (P : Proper A) where
  pub needs_unread : (r : Refusal) {old : List ℕ} → number_of r ≡ refusal_of A → NeedsOf A (Err r) old old
  needs_unread r e = (unread A P e (number_some r) _, number_some r, refl)

  -- where no check applies, by the lent length
  module _ (w : Passes A) {S : Semiautomaton} (m : S ≡ A.means) {old : List ℕ} where
    pub needs_short : length old < entries S → NeedsOf A (Err Room) old old
    needs_short l =
        let short : length old < entries A.means = rw (← m) l in
        (sym (refused_passing A P w _ ∙ rw (lt-ltb (length old) (entries A.means) short)), number_some Room, refl)

    pub needs_filled : {needs : List ℕ} → entries S ≤ length old → Filled S old needs → NeedsOf A (Ok (entries S)) old needs
    needs_filled {needs} l f =
        let room : entries A.means ≤ length old = rw (← m) l in (
          refused_passing A P w _ ∙ rw (le-ltb (length old) (entries A.means) room),
          (rw (← m) refl, rw (← m) f),
        )
