-- Ending: its refusals, and what it writes; the head of its table is at hand.
-- Assumes nothing.
use Prim.Native.Nat.{ℕ, ◌+◌, ◌≤◌, ◌<◌}
use mathlib.Core.Bool.{true, false, ◌||◌}
use mathlib.Core.Path.{◌≡◌, refl, subst}
use mathlib.Core.List.{List}
use native.Mathlib.Omega.{arith}
use lib.ListN.{length}
use lib.Dec.{ltb}
use mathlib.Core.Logic.{◌⊎◌, inl, inr}
use borrow.Author.Tests.{lt-ltb, le-ltb}
use Rattle.bitset.proofs.Tests.{or_left, or_right}
use Rattle.semiautomata.specs.Semiautomaton.{Semiautomaton}
use Rattle.semiautomata.specs.Means.{means}
use Rattle.refusals.specs.declared.Refusal.{Refusal}
use Rattle.refusals.specs.declared.Refusal.TheVariants as refusal
use Rattle.std.specs.Prelude.{Ok, Err}
use Rattle.streaming.specs.Streaming.{sound}
use Rattle.table.specs.Table.{lookahead_of, table_meaning}
use Rattle.table.specs.declared.Head.{Head}
use Rattle.table.proofs.Fitness.{Fitting, fitting_fit}
use Rattle.table.specs.Heads.{Heads, Headed}
use Rattle.table.proofs.Heads.{head_means, head_fits}
use Rattle.records.specs.Bytes.{held_from, decode, tidy}
use Rattle.deciding.specs.Deciding.{standing, ListsOpen}
use Rattle.deciding.proofs.Standing.{standing_some, standing_none}
use Rattle.predictor.specs.Calls.{end_refusal, Ends}

module _ (table bytes : List ℕ) (sets : ℕ) where
  -- no refusal applies
  pub end_0 : Fitting table → (ltb (length bytes) (held_from + lookahead_of table) || ltb sets (lookahead_of table)) ≡ false
      → tidy (lookahead_of table) bytes ≡ true → sound (table_meaning table) (lookahead_of table) (decode bytes) ≡ true
      → end_refusal table bytes sets ≡ 0
  unfolding end_refusal
  end_0 f e t s = rw (fitting_fit f, e, t, s)

module _ (table bytes old : List ℕ) where
  pub end_8 : {r : Refusal} → Heads table (Err r) → Ends table bytes (Err r) old old
  unfolding end_refusal
  end_8 (e, is) = (rw (is, e), rw is (λ z. omega arith), refl)

  module _ {head : Head} (h : Headed table head) where
    few : (length bytes < held_from + head.k) ⊎ ((held_from + head.k ≤ length bytes) × (length old < head.k))
        → (ltb (length bytes) (held_from + lookahead_of table) || ltb (length old) (lookahead_of table)) ≡ true
    few (inl e) = or_left _ _ (lt-ltb _ _ (rw h.k_is at e))
    few (inr e) = or_right _ _ (lt-ltb _ _ (rw h.k_is at e.1))

    pub end_9 : (length bytes < held_from + head.k) ⊎ ((held_from + head.k ≤ length bytes) × (length old < head.k)) → Ends table bytes (Err refusal.Room) old old
    unfolding end_refusal
    end_9 e = (rw (h.sound, few e), λ z. omega arith, refl)

    -- the buffers are long enough
    module _ (room : held_from + head.k ≤ length bytes) (sets : head.k ≤ length old) {here : ℕ} (at : here ≡ standing (means head.succ) head.k bytes) where
      enough : (ltb (length bytes) (held_from + lookahead_of table) || ltb (length old) (lookahead_of table)) ≡ false
      enough = rw (← h.k_is, le-ltb _ _ room, le-ltb _ _ sets)

      pub end_10 : here ≡ 0 → Ends table bytes (Err refusal.Record) old old
      unfolding end_refusal
      end_10 z =
          let d = rw (head_means h, h.k_is) at (standing_none head.succ head.k bytes room at z) in
          (rw (h.sound, enough, d), λ z. omega arith, refl)

      pub end_on : ¬ (here ≡ 0) → {count : ℕ} {out : List ℕ} → ListsOpen (means head.succ) head.k bytes count old out
          → Ends table bytes (Ok count) old out
      end_on n {count} {out} r =
          let s = standing_some head.succ head.k bytes room at n in (
            end_0 table bytes (length old) (head_fits h) enough (rw h.k_is at s.tidied) (rw (head_means h, h.k_is) at s.is_sound),
            subst (λ (S : Semiautomaton). ListsOpen S (lookahead_of table) bytes count old out) (head_means h) (rw h.k_is at r),
          )
