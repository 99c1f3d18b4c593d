-- The check of a claim (document 01, The count): the reader's refusal, yes if and only if all that is asked of the evidence holds, else no.
-- Assumes nothing.
use Rattle.std.specs.Prelude.{Bool, true, ◌↔◌, ◌≡◌, List, ℕ, Result}
use Rattle.refusals.specs.Outcomes.{Gives}
use Rattle.refusals.specs.Named.{outcome_of}
use Rattle.refusals.specs.declared.Refusal.{Refusal}
use Rattle.plan.specs.Asked.{Asked, refusal_of}
use Rattle.lookahead.specs.declared.Evidence.{Evidence}
use Rattle.lookahead.specs.Answers.{TrueOf}

-- What the check gives, of any claim.
abbrev pub Checks : Asked → Evidence → List ℕ → Result Bool Refusal → Type 0
Checks A c letters r = Gives (refusal_of A) Unit (λ yes. (yes ≡ true) ↔ TrueOf A.means c letters) (outcome_of r)
