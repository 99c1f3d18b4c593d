-- From the look-ahead of loaded sets to what preparing and the count call promise of the numbers that hold them, and of what is asked.
-- Assumes nothing.
use Prim.Native.Nat.{ℕ, ◌-◌, ◌*◌, ◌≤◌}
use native.Mathlib.Nat.{mul-le-mul_left}
use mathlib.Core.Path.{◌≡◌, refl, subst}
use mathlib.Core.Bool.{Bool, ◌||◌}
use mathlib.Core.List.{List}
use native.Mathlib.Omega.{arith}
use lib.ListN.{length}
use Rattle.semiautomata.specs.Semiautomaton.{Semiautomaton}
use Rattle.semiautomata.specs.Predictability.{Lookahead}
use Rattle.semiautomata.proofs.Bound.{lookahead_bound}
use Rattle.semiautomata.specs.Sizes.{Sized}
use Rattle.plan.specs.Asked.{Asked, refusal_of, refusal_with, Passes, Proper}
use Rattle.table.specs.Table.{contents, laid_out}
use Rattle.table.proofs.Form.{Reads, form_reads}
use Rattle.prepare.specs.Preparing.{Prepared, short_table, short_letters, Prepares, CountsTo}
use Rattle.prepare.specs.inner.Steps.{unchecked}
use Rattle.plan.proofs.Asked.{refused_passing}
use Rattle.prepare.proofs.Refusals.{square}

-- a table that holds the form with the look-ahead is fit and means S
pub sized_reads : {S : Semiautomaton} → Sized S → {k : ℕ} → Lookahead S k → (old : List ℕ) {table : List ℕ}
    → table ≡ laid_out (contents S k) old → Reads (contents S k) table
sized_reads {S} z {k} a old e = form_reads _ (record { sized = z; lookahead = lookahead_bound S z.within k a }) e

-- a look-ahead is small
pub small : {S : Semiautomaton} → Sized S → (k : ℕ) → Lookahead S k → k ≤ 4096
small {S} z k a = omega (arith, lookahead_bound S z.within k a, square z.n_high, less S.n)
  where
    less : (n : ℕ) → n * (n - 1) ≤ n * n
    less n = mul-le-mul_left n (omega arith)

-- nothing is checked
module _ {S : Semiautomaton} (z : Sized S) where
  pub unchecked_proper : Proper (unchecked S)
  unfolding refusal_of
  unchecked_proper = record { numbered = refl; other = λ e. omega arith; sized = λ _. z }

  pub unchecked_passes : Passes (unchecked S)
  unfolding refusal_of
  unchecked_passes = refl

-- where no check applies, what holds of the plan loaded holds of what is asked
module _ (A : Asked) (P : Proper A) (w : Passes A) {S : Semiautomaton} (m : S ≡ A.means) where
  -- 9 is all that is left
  left : (b : Bool) → refusal_with A b ≡ refusal_with (unchecked A.means) b
  unfolding refusal_with
  left b = refused_passing A P w b

  pub counts_asked : (a : Prepared) (old letters : List ℕ) → CountsTo (unchecked S) a old letters → CountsTo A a old letters
  counts_asked a old letters c =
      let d = subst (λ (S : Semiautomaton). CountsTo (unchecked S) a old letters) m c in
      rw (left (short_letters A.means (length old))) d

  pub prepares_asked : (a : Prepared) (old table old' letters : List ℕ) → Prepares (unchecked S) a old table old' letters
      → Prepares A a old table old' letters
  prepares_asked a old table old' letters c =
      let d = subst (λ (S : Semiautomaton). Prepares (unchecked S) a old table old' letters) m c in
      rw (left (short_table A.means (length old) || short_letters A.means (length old'))) d
