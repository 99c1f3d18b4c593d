-- The refusal of a call on a plan for want of room.
-- Assumes nothing.
use Prim.Native.Nat.{ℕ}
use mathlib.Core.Bool.{true}
use mathlib.Core.Path.{◌≡◌, sym, ap}
use mathlib.Core.List.{List, [], ◌∷◌, ◌++◌}
use Rattle.refusals.specs.Checks.{first_of, short}
use Rattle.refusals.specs.Outcomes.{refusing}
use Rattle.plan.specs.Asked.{Asked, refusal_of, refusal_with, Passes, Proper}
use Rattle.plan.specs.Bytes.{plan_checks, asked_checks, unnamed, asked}
use Rattle.plan.proofs.Asked.{refused_passing, refused_same, unread}
use Rattle.plan.proofs.Refusals.{asked_proper, asked_zero, unnamed_proper}
use Rattle.numbers.specs.Numbers.{no_room}

module _ (A : Asked) (P : Proper A) where
  pub no_room_refused : {r : ℕ} → r ≡ refusal_of A → ¬ (r ≡ 0) → r ≡ first_of (A.checks ++ (short true ∷ []))
  unfolding refusal_with
  no_room_refused e n = unread A P e n true

  pub no_room_passed : Passes A → 9 ≡ first_of (A.checks ++ (short true ∷ []))
  unfolding refusal_with
  no_room_passed w = sym (refused_passing A P w true)

-- to name party 0 is to name none
pub no_room_zero : (plan : List ℕ) → no_room (asked_checks plan 0) ≡ no_room (plan_checks plan)
unfolding refusal_with
no_room_zero plan =
    ap refusing (refused_same (asked plan 0) (unnamed plan) (asked_proper plan 0) (unnamed_proper plan) (asked_zero plan) true)
