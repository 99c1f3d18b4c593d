-- Writing a plan's form (document 02, W-201 and W-207): its refusals in order, and what it answers and writes.
-- Assumes nothing.
use Rattle.std.specs.Prelude.{ℕ, Bool, ◌≡◌, List, ltb, length, Result}
use Rattle.refusals.specs.declared.Refusal.{Refusal}
use Rattle.refusals.specs.Outcomes.{Gives}
use Rattle.refusals.specs.Named.{outcome_of}
use Rattle.slices.specs.Copying.{at_front}
use Rattle.plan.specs.Asked.{refusal_with}
use Rattle.plan.specs.Bytes.{unnamed}
use Rattle.filing.specs.Filed.{filed}

-- 9: fewer bytes are lent than the form has.
abbrev pub short_filed : List ℕ → ℕ → Bool
short_filed plan size = ltb size (length (filed plan))

-- The first of 1 to 7, 16 and 9, in this order, that applies with so many bytes lent, 0 if none does. Writing names no party.
abbrev pub write_refusal : List ℕ → ℕ → ℕ
write_refusal plan size = refusal_with (unnamed plan) (short_filed plan size)

-- What writing gives: the form at the front of the lent bytes, which keep their rest; it answers how many bytes the form has.
abbrev pub Writes : List ℕ → Result ℕ Refusal → List ℕ → List ℕ → Type 0
Writes plan a old out =
    Gives (write_refusal plan (length old)) (out ≡ old) (λ count. (count ≡ length (filed plan)) × (out ≡ at_front (filed plan) old))
    (outcome_of a)
