-- The theorems of specs/Theorems.antt.
-- Assumes nothing.
use Prim.Native.Nat.{ℕ, ◌≤◌}
use mathlib.Core.Bool.{false}
use mathlib.Core.Path.{◌≡◌, refl, sym, ◌∙◌}
use mathlib.Core.Logic.{inl, inr}
use mathlib.Core.List.{List, [], ◌∷◌, ◌++◌}
use native.Mathlib.Omega.{arith}
use lib.ListN.{length}
use Rattle.bitset.proofs.Tests.{decided}
use Rattle.slices.specs.Appending.{each}
use Rattle.decimals.specs.Decimals.{digits, decimal, right, left}
use Rattle.bitset.specs.Sets.{any, size}
use Rattle.semiautomata.specs.Sizes.{endless, unmeasured}
use Rattle.semiautomata.specs.Levels.{live, clash_in}
use Rattle.semiautomata.specs.Access.{accessible, accessible_by}
use Rattle.plan.specs.Asked.{refusal_of}
use Rattle.plan.specs.Bytes.{meaning, plan_checks, WellFormed}
use Rattle.plan.proofs.Refusals.{asked_proper, asked_zero}
use Rattle.needs.proofs.Computed.{tells_so}
use Rattle.inputs.specs.Inputs.{plan_of, no_plan, wanted}
use Rattle.inputs.proofs.Inputs.{still_plan, same_plan, told_wanted}
use Rattle.needs.specs.Needs.{TellsNeeds}
use Rattle.needs.proofs.Theorems.{tells_unique}
use Rattle.pages.specs.Page.{page, line}
use Rattle.page.specs.Printing.{input_refusal, Shows, refused, shown}
use Rattle.page.specs.Theorems.{sample_input, SampleShown, Theorems}

one≢0 : ¬ (◌≡◌ {A = ℕ} 1 0)
one≢0 e = omega arith

unique : {input : List ℕ} (a b : List ℕ) → Shows input a → Shows input b → a ≡ b
unique a b (refused n) (refused m) = refl
unique a b (refused n) (shown z _ _) = absurd (n z)
unique a b (shown z _ _) (refused n) = absurd (n z)
unique a b (shown _ numbers t) (shown _ others u) = rw (tells_unique numbers others t u)

-- an input that is not refused has a plan
has_plan : (input : List ℕ) → input_refusal input ≡ 0 → no_plan input ≡ false
unfolding input_refusal
has_plan input z = elim (decided (no_plan input)) [ inl e ↦ absurd (one≢0 (rw e at z)) | inr e ↦ e ]

-- what stands behind the plan is not looked at
module _ (input rest : List ℕ) (enough : wanted input ≤ length input) where
  same_refusal : input_refusal (input ++ rest) ≡ input_refusal input
  unfolding input_refusal
  same_refusal = elim (decided (no_plan input)) [
    | inl e ↦ rw (e, told_wanted input rest enough e)
    | inr e ↦ rw (e, still_plan input e rest, same_plan input e rest)
  ]

  behind : (text : List ℕ) → Shows input text → Shows (input ++ rest) text
  behind text (refused n) = rw (← same_refusal) (refused (λ z. n (sym same_refusal ∙ z)))
  behind text (shown z numbers t) =
      let same = same_plan input (has_plan input z) rest in
      rw (← same) (shown (same_refusal ∙ z) numbers (rw same t))

-- THE SAMPLE, by computing

abbrev sample_numbers : List ℕ
sample_numbers =
    3
    ∷ 0
    ∷ 0
    ∷ 0
    ∷ unmeasured
    ∷ unmeasured
    ∷ 0
    ∷ unmeasured
    ∷ unmeasured
    ∷ endless
    ∷ unmeasured
    ∷ 0
    ∷ unmeasured
    ∷ unmeasured
    ∷ unmeasured
    ∷ unmeasured
    ∷ unmeasured
    ∷ []

well_formed : WellFormed (plan_of sample_input)
unfolding refusal_of plan_checks any
well_formed = refl

sample_tells : TellsNeeds (meaning (plan_of sample_input) 0) sample_numbers
unfolding any clash_in live accessible accessible_by
sample_tells =
    let z = (asked_proper (plan_of sample_input) 0).sized (asked_zero (plan_of sample_input) ∙ well_formed) in
    tells_so (meaning (plan_of sample_input) 0) z.within z.n_high sample_numbers refl

pub sample : SampleShown
unfolding input_refusal no_plan refusal_of plan_checks any page line right left decimal digits each size
sample = shown refl sample_numbers sample_tells

pub theorems : (input : List ℕ) → Theorems input
theorems input = record { unique = unique; behind = λ rest text h s. behind input rest h text s }
