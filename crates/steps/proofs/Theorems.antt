-- The theorems of specs/Theorems.antt.
-- Assumes nothing.
use Prim.Native.Nat.{ℕ}
use mathlib.Core.Bool.{true≢false}
use mathlib.Core.Path.{◌≡◌, refl, sym, ◌∙◌}
use mathlib.Core.List.{List, []}
use Rattle.bitset.specs.Sets.{any, least}
use Rattle.bitset.specs.Numbers.{has, set_of}
use Rattle.semiautomata.specs.Semiautomaton.{Semiautomaton}
use Rattle.semiautomata.specs.Walks.{spells, step, walkable, possible}
use Rattle.streaming.specs.PlainWalk.{limit, state_at, plain_reply, plain_feed}
use Rattle.streaming.specs.Demand3.{followed}
use Rattle.streaming.specs.Streaming.{unresolved}
use Rattle.semiautomata.proofs.Shares.{lookahead_unique, lookahead_predicts}
use Rattle.samples.proofs.Plans.{as_said_well, samples_hold}
use Rattle.slices.specs.Appending.{each}
use Rattle.decimals.specs.Decimals.{digits, decimal}
use Rattle.lines.specs.Lines.{field, counts_line, lookahead_line, refused_line, resolution_line, open_line}
use Rattle.steps.specs.declared.Stage.TheVariants.{Plan}
use Rattle.inputs.specs.Inputs.{no_plan}
use Rattle.text.specs.Report.{open_lines, open_text, walk_text, plain_text, AfterLookahead, no_start, walked}
use Rattle.text.specs.Report.{AfterCounts, never, predicts, Reports, no_plan_lem, ill_formed, well_formed}
use Rattle.steps.specs.Steps.{Runs}
use Rattle.steps.specs.Theorems.{sample_input, sample_text, refused_sample, refused_text, zero_table, zero_record, Theorems}
use Rattle.steps.proofs.Running.{run_reports}
use Rattle.steps.proofs.Sample.{sample_runs, refused_runs}

-- ONE REPORT

one_opened : {S : Semiautomaton} {k : ℕ} {letters a b : List ℕ} → AfterLookahead S k letters a → AfterLookahead S k letters b → a ≡ b
one_opened (no_start _) (no_start _) = refl
one_opened (no_start n) (walked s e) = absurd (true≢false (sym e ∙ n s))
one_opened (walked s e) (no_start n) = absurd (true≢false (sym e ∙ n s))
one_opened (walked _ _) (walked _ _) = refl

one_counted : {S : Semiautomaton} {letters a b : List ℕ} → AfterCounts S letters a → AfterCounts S letters b → a ≡ b
one_counted (never _) (never _) = refl
one_counted (never u) (predicts k l _) = absurd (lookahead_predicts l u)
one_counted (predicts k l _) (never u) = absurd (lookahead_predicts l u)
one_counted (predicts k l a) (predicts j m b) =
    let e : j ≡ k = lookahead_unique m l in
    rw (e, one_opened a (rw e at b))

one_report : {input a b : List ℕ} → Reports input a → Reports input b → a ≡ b
one_report (no_plan_lem _) (no_plan_lem _) = refl
one_report (no_plan_lem e) (ill_formed n _) = absurd (true≢false (sym e ∙ n))
one_report (no_plan_lem e) (well_formed n _ _) = absurd (true≢false (sym e ∙ n))
one_report (ill_formed n _) (no_plan_lem e) = absurd (true≢false (sym e ∙ n))
one_report (ill_formed _ _) (ill_formed _ _) = refl
one_report (ill_formed _ i) (well_formed _ w _) = absurd (i w)
one_report (well_formed n _ _) (no_plan_lem e) = absurd (true≢false (sym e ∙ n))
one_report (well_formed _ w _) (ill_formed _ i) = absurd (i w)
one_report (well_formed _ _ a) (well_formed _ _ b) = rw (one_counted a b)

-- THE SAMPLE

sample_printed : Reports sample_input sample_text
unfolding no_plan digits decimal field counts_line lookahead_line resolution_line each open_line open_lines open_text walk_text plain_text limit state_at plain_reply plain_feed followed unresolved possible walkable spells step any least has set_of
sample_printed = let a = samples_hold.0 in well_formed refl (as_said_well a) (predicts 1 a.ahead (walked 0 refl))

sample_run : Runs (Plan 0 16) [] zero_table zero_record sample_input sample_text
sample_run =
    let (text, run) = sample_runs in
    rw (one_report (run_reports zero_table zero_record sample_input text run) sample_printed) at run

-- PLAN B

refused_printed : Reports refused_sample refused_text
unfolding no_plan digits decimal field counts_line refused_line
refused_printed = let b = samples_hold.1.0 in well_formed refl (as_said_well b) (never b.ahead)

refused_run : Runs (Plan 0 16) [] zero_table zero_record refused_sample refused_text
refused_run =
    let (text, run) = refused_runs in
    rw (one_report (run_reports zero_table zero_record refused_sample text run) refused_printed) at run

pub theorems : (input : List ℕ) → Theorems input
theorems input = record {
  run_reports = λ table bytes text. run_reports table bytes input text;
  unique = λ a b. one_report;
  sample_printed = sample_printed;
  sample_run = sample_run;
  refused_run = refused_run;
}
