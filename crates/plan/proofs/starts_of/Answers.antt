-- A well-formed plan has its header, its parts and no start that is off.
use Rattle.std.proofs.Common.{◌≡◌, ℕ, false, Result, Ok, Err, refl, sym, ◌∙◌}
use Rattle.std.specs.Result.{IsOk}
use Rattle.std.proofs.lemmas.Bool.{false≢true}
use Rattle.refusals.specs.declared.Refusal.{Refusal}
use Rattle.plan.specs.Plan.{Plan, start_off}
use Rattle.plan.specs.Listed.{listed}
use Rattle.plan.specs.inner.Steps.{StartsEntered}
use Rattle.plan.proofs.Refusals.{well_formed_parts}
use Rattle.plan.proofs.starts_of.Goals as goal

entered : (P : Plan) (r : Result ℕ Refusal) → StartsEntered P r → start_off P ≡ false → IsOk r
entered P (Ok set) _ _ = refl
entered P (Err r) (off, _) none = absurd (false≢true (sym none ∙ off))

pub unwrap-requires : goal.unwrap-requires
unwrap-requires c =
    let (plan, h) = c.of.ensures in
    entered (listed c.of.result) _ c.enter_starts.ensures (rw (plan, h) (well_formed_parts _ c.requires).0)
