-- A run of steps prints the report: what is to be printed from a stage on, step by step.
-- Assumes nothing.
use Prim.Native.Nat.{ℕ, ◌+◌, ◌≤◌}
use mathlib.Core.Bool.{false, true≢false}
use mathlib.Core.Logic.{inl, inr}
use mathlib.Core.Path.{◌≡◌, refl, sym, ◌∙◌}
use mathlib.Core.List.{List, [], ◌∷◌, ◌++◌, append_assoc, append-nil}
use native.Mathlib.Omega.{arith}
use lib.ListN.{length, take, drop, length-append, drop_of_length-le}
use lib.Seq.{take_at, take_all}
use Rattle.steps.specs.declared.Stage.{Stage}
use Rattle.steps.specs.declared.Stage.TheVariants.{Plan, Letters, Over}
use Rattle.slices.specs.Appending.{Appended}
use Rattle.inputs.specs.Inputs.{total_of, no_plan, wanted}
use Rattle.text.specs.Report.{input_letters, walk_text, Reports}
use Rattle.text.specs.Calls.{walk_on, LeavesOf, unread, read, Told}
use Rattle.steps.specs.Steps.{read_from, read_upto, Runs, over, on}
use Rattle.steps.specs.Steps.{Steps, reads_on, begins, begins_last, feeds, feeds_last, finishes, stays}
use Rattle.slices.proofs.Appending.{appended_on}
use Rattle.inputs.proofs.Inputs.{whole, wanted_grows, told_wanted}

-- what a call wrote is what it answered the length of
written : {old text : List ℕ} {r : ℕ} {out : List ℕ} → Appended old 0 text r out → take r out ≡ text
written {old} {text} {r} p = rw p.is (take_at text (drop (0 + length text) old) r (omega (arith, p.end)))

empty : (l : List ℕ) → length l ≡ 0 → l ≡ []
empty [] h = refl
empty (x ∷ l) h = absurd (omega arith)

-- THE PLAN

-- no more is read than that, so no letter is among it
no_letters : (input : List ℕ) → no_plan input ≡ false → length input ≤ wanted input → input_letters input ≡ []
no_letters input e h = let w = whole input e in drop_of_length-le input {i = total_of input} (omega (arith, w.total))

is_plan : {input table bytes table' left : List ℕ} → LeavesOf input table bytes false table' left → no_plan input ≡ false
is_plan (unread _ e _ _) = absurd (true≢false (sym e))
is_plan (read e _ _) = e

-- what is there tells whether the input has a plan: all of it, or as much as it wants
told_all : (input rest : List ℕ) → length rest ≡ 0 → Told input rest
told_all input rest z none = rw (empty rest z, append-nil) none

-- A RUN

-- what is to be printed from a stage on, of what is still to be read
abbrev Prints : Stage → List ℕ → List ℕ → List ℕ → List ℕ → List ℕ → Type 0
Prints (Plan from upto) seen table bytes input text = from ≡ length seen → upto ≡ wanted seen → Reports (seen ++ input) text
Prints Letters seen table bytes input text = seen ≡ [] → walk_on table bytes input ≡ text
Prints Over seen table bytes input text = text ≡ []

step_prints : {stage next : Stage} {table bytes table' left old : List ℕ} (seen piece rest text : List ℕ) {r : ℕ} {out : List ℕ}
    → (length piece ≡ 0 → length rest ≡ 0) → length (seen ++ piece) ≤ read_upto stage
    → Steps (seen ++ piece) table bytes old stage r next table' left out
    → Prints next (take (read_from next) (seen ++ piece)) table' left rest text
    → Prints stage seen table bytes (piece ++ rest) (take r out ++ text)
unfolding walk_text
step_prints seen piece rest text none most (reads_on more few) p = λ from upto.
    rw (← append_assoc seen piece rest) ((rw (take_all (length (seen ++ piece)) (seen ++ piece) (omega arith)) at p) refl refl)
step_prints seen piece rest text none most (begins _ b) p = λ from upto.
    let plan = is_plan b.1 in
    let few : length (seen ++ piece) ≤ wanted (seen ++ piece) = omega (arith, wanted_grows seen piece) in
    let all = b.2.follows rest (λ e. absurd (true≢false (sym e ∙ plan))) in
    rw (← append_assoc seen piece rest, written b.2.put, ← p refl) (rw (no_letters (seen ++ piece) plan few) at all)
step_prints seen piece rest text none most (begins_last ready b) p = λ from upto.
    let told : Told (seen ++ piece) rest = elim ready [
      | inl h ↦ told_all (seen ++ piece) rest (none (omega (arith, length-append seen piece)))
      | inr h ↦ told_wanted (seen ++ piece) rest h
    ] in
    rw (← append_assoc seen piece rest, written b.2.put, p) (b.2.follows rest told)
step_prints seen piece rest text none most (feeds _ f) p = λ e. (rw e at (f.2.follows rest)) ∙ rw (written f.2.put, p refl)
step_prints seen piece rest text none most (feeds_last f q) p = λ e.
    (rw e at (f.2.follows rest)) ∙ rw (written (appended_on f.2.put q), p, append-nil)
step_prints seen piece rest text none most (finishes z q) p = λ e.
    let nothing : length piece ≡ 0 = omega (arith, length-append seen piece) in
    rw (empty piece nothing, empty rest (none nothing), written q, p, append-nil)
step_prints seen piece rest text none most stays p = p

run_prints : {stage : Stage} {seen table bytes input text : List ℕ} → Runs stage seen table bytes input text
    → Prints stage seen table bytes input text
run_prints over = refl
run_prints {seen = seen} (on piece rest {text = text} none most step more) =
    step_prints seen piece rest text none most step (run_prints more)

pub run_reports : (table bytes input text : List ℕ) → Runs (Plan 0 16) [] table bytes input text → Reports input text
run_reports table bytes input text r = run_prints r refl refl
