-- Two closed runs: document 01's sample, over buffers of zeros as the program has them, and plan B, which ends with its second line.
-- Assumes nothing.
use Prim.Native.Nat.{ℕ, ◌≤◌}
use mathlib.Core.Bool.{false}
use mathlib.Core.Logic.{inr}
use mathlib.Core.Path.{◌≡◌, refl}
use mathlib.Core.List.{List, [], ◌∷◌, ◌++◌, append_assoc, append-nil, flat_map}
use native.Mathlib.Omega.{arith}
use Rattle.std.specs.Prelude.{Some}
use lib.ListN.{length, length-append, replicate}
use Rattle.bitset.specs.Sets.{any, size, least}
use Rattle.bitset.specs.Numbers.{has, set_of}
use Rattle.semiautomata.specs.Predictability.{Lookahead}
use Rattle.semiautomata.specs.Walks.{spells, step, possible, walkable}
use Rattle.streaming.specs.PlainWalk.{limit}
use Rattle.streaming.specs.Calls.{resolved, nothing}
use Rattle.streaming.specs.Streaming.{base, sound, sole_at, settle}
use Rattle.refusals.specs.Outcomes.{answered}
use Rattle.plan.specs.Bytes.{meaning, reading, WellFormed}
use Rattle.table.specs.Table.{lookahead_of, table_meaning, unfit, contents, laid_out}
use Rattle.plan.proofs.Refusals.{well_formed_sized}
use Rattle.prepare.proofs.Answers.{sized_reads}
use Rattle.records.specs.Bytes.{tidy}
use Rattle.predictor.specs.Calls.{opened_on, fed_on}
use Rattle.samples.specs.Plans.{bytes, A as sample-A, B as sample-B}
use Rattle.samples.proofs.Plans.{as_said_well, samples_hold}
use Rattle.text.specs.declared.Printed.TheVariants.{Going, Ended}
use Rattle.steps.specs.declared.Stage.TheVariants.{Plan, Letters}
use Rattle.slices.specs.Appending.{Appended}
use Rattle.lines.specs.Lines.{counts_line, lookahead_line, refused_line}
use Rattle.slices.specs.Copying.{pasted}
use Rattle.inputs.specs.Inputs.{no_plan}
use Rattle.text.specs.Report.{input_letters, never}
use Rattle.text.specs.Calls.{open_on, walk_on, Begins, FeedsPart, unpredictable, opens, read}
use Rattle.steps.specs.Steps.{Runs, over, on, reads_on, begins, begins_last, feeds, finishes}
use Rattle.steps.specs.Theorems.{zero_table, zero_record, sample_input, refused_sample}
use Rattle.lines.proofs.Widths.{counts_width, lookahead_width, refused_width, resolution_width}
use Rattle.text.proofs.Agreeing.{opened_goes}
use Rattle.text.proofs.Beginning.{counted, read_well}
use Rattle.text.proofs.Feeding.{upto_none, upto_next, upto_all}

-- bytes written at the front, where there is room for them
puts : (old text : List ℕ) → length text ≤ length old → Appended old 0 text (length text) (pasted old 0 text)
puts old text h = record { room = record { fits = omega arith }; end = omega arith; is = refl }

abbrev lines : List ℕ
lines = replicate 106 0

-- PLAN A

abbrev A1 : List ℕ
A1 = 1 ∷ 0 ∷ 3 ∷ 0 ∷ 1 ∷ 0 ∷ 1 ∷ 0 ∷ 3 ∷ 0 ∷ 16 ∷ 0 ∷ 17 ∷ 0 ∷ 26 ∷ 0 ∷ []

abbrev A2 : List ℕ
A2 = 0 ∷ 0 ∷ 0 ∷ 1 ∷ 1 ∷ 0 ∷ 1 ∷ 1 ∷ 0 ∷ 2 ∷ []

abbrev A : List ℕ
A = bytes sample-A

w : WellFormed A
w = as_said_well samples_hold.0

-- its table, and the record opened and after each letter
abbrev table : List ℕ
table = 3 ∷ 1 ∷ 1 ∷ 1 ∷ 2 ∷ 6 ∷ 0 ∷ replicate 2045 0

is_laid : table ≡ laid_out (contents (meaning A 0) 1) zero_table
unfolding flat_map set_of any
is_laid = refl

abbrev r1 : List ℕ
r1 = 0 ∷ 0 ∷ 0 ∷ 0 ∷ 255 ∷ replicate 2019 0

abbrev r2 : List ℕ
r2 = 1 ∷ 0 ∷ 0 ∷ 0 ∷ 0 ∷ 0 ∷ 1 ∷ replicate 2017 0

abbrev r3 : List ℕ
r3 = 2 ∷ 0 ∷ 0 ∷ 0 ∷ 1 ∷ 0 ∷ 1 ∷ replicate 2017 0

abbrev r4 : List ℕ
r4 = 3 ∷ 0 ∷ 0 ∷ 0 ∷ 1 ∷ 0 ∷ 1 ∷ replicate 2017 0

opened_so : (nothing ≡ (opened_on table zero_record).reply) × (r1 ≡ (opened_on table zero_record).state)
unfolding opened_on unfit settle any has
opened_so = (refl, refl)

fed1 : (resolved 0 0 ≡ (fed_on table r1 0).reply) × (r2 ≡ (fed_on table r1 0).state)
unfolding fed_on unfit tidy sound base limit settle sole_at walkable possible spells step any size least has
fed1 = (refl, refl)

fed2 : (resolved 1 1 ≡ (fed_on table r2 0).reply) × (r3 ≡ (fed_on table r2 0).state)
unfolding fed_on unfit tidy sound base limit settle sole_at walkable possible spells step any size least has
fed2 = (refl, refl)

fed3 : (resolved 2 1 ≡ (fed_on table r3 0).reply) × (r4 ≡ (fed_on table r3 0).state)
unfolding fed_on unfit tidy sound base limit settle sole_at walkable possible spells step any size least has
fed3 = (refl, refl)

is_read : answered (record { n = 3; m = 1; p = 1; e = 3 }) ≡ reading A
is_read = rw w

is_plan : no_plan A ≡ false
unfolding no_plan
is_plan = refl

-- the first two lines; opening has none
begun : (r : ℕ) × (out : List ℕ) × Begins A zero_table zero_record (Some (Going r)) table r1 lines out
begun =
    let L = samples_hold.0.ahead in
    let t = sized_reads (well_formed_sized A w 0) L zero_table is_laid in
    let L' : Lookahead (table_meaning table) (lookahead_of table) = rw (t.means, t.k_is) L in
    let goes = opened_goes table t.fit L' zero_record (omega arith) opened_so.0 opened_so.1 refl in
    let (_, says) = read_well A is_plan is_read in
    let text : List ℕ = counts_line 3 1 1 3 ++ lookahead_line 1 in
    let long : length text ≤ 106 =
    rw length-append
    (omega (arith, counts_width 3 1 1 3 (omega arith) (omega arith) (omega arith) (omega arith), lookahead_width 1 (omega arith))) in (
      _,
      _,
      (
        (omega arith, omega arith, omega arith),
        read is_plan w (opens 1 L is_laid opened_so.1 (rw (← opened_so.0))),
        record {
          text = text;
          put = puts lines text long;
          follows = λ rest.
              rw (append_assoc (counts_line 3 1 1 3) (lookahead_line 1) (walk_on table r1 (input_letters A ++ rest)))
              (says rest _ (counted L t (input_letters A ++ rest) _ (goes (input_letters A ++ rest))));
        },
      ),
    )

abbrev two : List ℕ
two = 0 ∷ 0 ∷ []

abbrev one : List ℕ
one = 0 ∷ []

fed_two : (r : ℕ) × (out : List ℕ) × FeedsPart table r1 two (Some (Going r)) r3 lines out
fed_two =
    let u1 = upto_next (upto_none table r1 two) (omega arith) fed1.0 fed1.1 refl refl (resolution_width 0 0 (omega arith) (omega arith)) in
    let u2 = upto_next u1 (omega arith) fed2.0 fed2.1 refl refl (resolution_width 1 1 (omega arith) (omega arith)) in
    let (fed, follows) = upto_all u2 (omega arith) in
    (_, _, (omega arith, fed, record { text = _; put = puts lines _ (omega (arith, u2.few)); follows = follows }))

fed_one : (r : ℕ) × (out : List ℕ) × FeedsPart table r3 one (Some (Going r)) r4 lines out
fed_one =
    let u = upto_next (upto_none table r3 one) (omega arith) fed3.0 fed3.1 refl refl (resolution_width 2 1 (omega arith) (omega arith)) in
    let (fed, follows) = upto_all u (omega arith) in
    (_, _, (omega arith, fed, record { text = _; put = puts lines _ (omega (arith, u.few)); follows = follows }))

-- read in parts of 16, 10, 2 and 1 bytes, and once more at its end
pub sample_runs : (text : List ℕ) × Runs (Plan 0 16) [] zero_table zero_record sample_input text
sample_runs = (
  _,
  on {stage = Plan 0 16} {seen = []} {old = lines} A1 (A2 ++ two ++ one) (λ z. absurd (omega arith)) (omega arith)
      (reads_on {from = 0} {upto = 16} (omega arith) (omega arith))
      (on {stage = Plan 16 26} {seen = A1} A2 (two ++ one) (λ z. absurd (omega arith)) (omega arith)
      (begins {from = 16} {upto = 26} (inr (omega arith)) begun.2)
      (on {stage = Letters} {seen = []} two one (λ z. absurd (omega arith)) (omega arith) (feeds (omega arith) fed_two.2)
      (on {stage = Letters} {seen = []} one [] (λ z. absurd (omega arith)) (omega arith) (feeds (omega arith) fed_one.2)
      (on {stage = Letters} {seen = []} [] [] (λ z. z) (omega arith)
      (finishes refl (puts (open_on table r4) (open_on table r4) (omega arith))) over)))),
)

-- PLAN B

abbrev B1 : List ℕ
B1 = 1 ∷ 0 ∷ 2 ∷ 0 ∷ 1 ∷ 0 ∷ 1 ∷ 0 ∷ 3 ∷ 0 ∷ 16 ∷ 0 ∷ 17 ∷ 0 ∷ 26 ∷ 0 ∷ []

abbrev B2 : List ℕ
B2 = 0 ∷ 0 ∷ 0 ∷ 0 ∷ 0 ∷ 0 ∷ 1 ∷ 1 ∷ 0 ∷ 1 ∷ []

abbrev B : List ℕ
B = bytes sample-B

b_read : answered (record { n = 2; m = 1; p = 1; e = 3 }) ≡ reading B
b_read = rw (as_said_well samples_hold.1.0)

b_plan : no_plan B ≡ false
unfolding no_plan
b_plan = refl

b_begun : (r : ℕ) × (out : List ℕ) × Begins B zero_table zero_record (Some (Ended r)) zero_table zero_record lines out
b_begun =
    let u = samples_hold.1.0.ahead in
    let (_, says) = read_well B b_plan b_read in
    let text : List ℕ = counts_line 2 1 1 3 ++ refused_line 15 in
    let long : length text ≤ 106 =
    rw length-append
    (omega (arith, counts_width 2 1 1 3 (omega arith) (omega arith) (omega arith) (omega arith), refused_width 15 (omega arith))) in (
      _,
      _,
      (
        (omega arith, omega arith, omega arith),
        read b_plan (as_said_well samples_hold.1.0) (unpredictable u refl refl refl),
        record { text = text; put = puts lines text long; follows = λ rest. rw (append-nil text) (says rest _ (never u)) },
      ),
    )

-- its two letters are not read
pub refused_runs : (text : List ℕ) × Runs (Plan 0 16) [] zero_table zero_record refused_sample text
refused_runs = (
  _,
  on {stage = Plan 0 16} {seen = []} {old = lines} B1 (B2 ++ two) (λ z. absurd (omega arith)) (omega arith)
      (reads_on {from = 0} {upto = 16} (omega arith) (omega arith))
      (on {stage = Plan 16 26} {seen = B1} B2 two (λ z. absurd (omega arith)) (omega arith)
      (begins_last {from = 16} {upto = 26} (inr (omega arith)) b_begun.2)
      over),
)
