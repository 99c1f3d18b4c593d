-- What is answered of a whole walk, test by test; the head of its table is at hand.
-- Assumes nothing.
use Rattle.std.specs.Prelude.{Ok, Err}
use Prim.Native.Nat.{ℕ, suc, ◌≤◌}
use mathlib.Core.Bool.{true, false, not}
use mathlib.Core.Path.{◌≡◌, refl, subst, ap}
use mathlib.Core.List.{List, ◌++◌}
use native.Mathlib.Omega.{arith}
use lib.Dec.{ltb}
use lib.ListN.{length, take, drop}
use borrow.Author.Tests.{lt-ltb, le-ltb}
use Rattle.bitset.specs.Numbers.{has}
use Rattle.bitset.proofs.Below.{any_none}
use Rattle.bitset.proofs.Bits.{has_empty, some_member}
use Rattle.semiautomata.specs.Semiautomaton.{Semiautomaton}
use Rattle.semiautomata.specs.Walks.{possible, longest}
use Rattle.semiautomata.specs.Means.{means}
use Rattle.refusals.specs.declared.Refusal.{Refusal}
use Rattle.refusals.specs.declared.Refusal.TheVariants as refusal
use Rattle.refusals.proofs.First.{passed_first}
use Rattle.table.specs.declared.Head.{Head}
use Rattle.table.specs.Table.{states_of, initial_of, unfit}
use Rattle.table.specs.Heads.{Headed}
use Rattle.table.proofs.Heads.{head_means, head_fits}
use Rattle.walks.specs.Walking.{letter_off, Written}
use Rattle.walks.proofs.Longest.{longest_le}
use Rattle.simulate.specs.Walking.{walk_checks, walk_refusal, traced, Walks}
use Rattle.simulate.proofs.Positions.{traced_is}

module _ (table w old : List ℕ) where
  pub walk_8 : {r : Refusal} → (unfit table ≡ true) × (r ≡ refusal.Table) → Walks table w (Err r) old old
  unfolding walk_refusal
  walk_8 (e, is) = rw is (rw e, λ z. omega arith, refl)

  module _ {head : Head} (h : Headed table head) where
    pub walk_9 : length old ≤ length w → Walks table w (Err refusal.Room) old old
    unfolding walk_refusal
    walk_9 e = (rw (h.sound, lt-ltb (length old) (suc (length w)) (omega arith)), λ z. omega arith, refl)

    module _ (room : suc (length w) ≤ length old) where
      long : ltb (length old) (suc (length w)) ≡ false
      long = le-ltb (length old) (suc (length w)) room

      pub walk_12 : letter_off head.succ.m w ≡ true → Walks table w (Err refusal.Letter) old old
      unfolding walk_refusal
      walk_12 e = (rw (h.sound, long, rw h.m_is at e), λ z. omega arith, refl)

      module _ (on : letter_off head.succ.m w ≡ false) where
        pub walk_13 : head.succ.starts ≡ 0 → Walks table w (Err refusal.Nowhere) old old
        unfolding walk_refusal
        walk_13 e =
            let none = any_none (states_of table) (has (initial_of table)) (λ x _. rw (← h.starts_is, e) (has_empty x)) in
            (rw (h.sound, long, rw h.m_is at on, none), λ z. omega arith, refl)

        pub walk_on_lem : ¬ (head.succ.starts ≡ 0) → {g : ℕ} {out : List ℕ} → g ≡ longest (means head.succ) w
            → Written head.succ.n (take g w) (possible (means head.succ) (has head.succ.starts) (take g w)) old out
            → length out ≡ length old → Walks table w (Ok g) old out
        unfolding walk_refusal
        walk_on_lem n {g} {out} e t l =
            let some = some_member (states_of table) (initial_of table) (omega (arith, h.starts_is)) (head_fits h).initial in
            let size : suc g ≤ length out = omega (arith, longest_le (means head.succ) w e) in (
              passed_first (walk_checks table w (length old)) (h.sound, (long, (rw h.m_is at on, (ap not some, tt)))),
              subst (λ (S : Semiautomaton). (g ≡ longest S w) × (out ≡ traced S w ++ drop (suc g) old)) (head_means h)
                  (e, traced_is (means head.succ) w e t size),
            )
