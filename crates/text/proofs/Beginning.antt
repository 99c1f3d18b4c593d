-- The first lines one after the other, and the input of which the first bytes are read.
-- Assumes nothing.
use Prim.Native.Nat.{ℕ, ◌+◌, ◌*◌, ◌≤◌, ◌<◌}
use mathlib.Core.Bool.{false}
use mathlib.Core.Path.{◌≡◌, ◌∙◌, ap}
use mathlib.Core.List.{List, [], ◌++◌, append_assoc, append-nil}
use native.Mathlib.Nat.{le_trans, mul-le-mul_left, mul-le-mul_right}
use native.Mathlib.Omega.{arith}
use lib.ListN.{length}
use lib.Seq.{drop-append-le}
use Rattle.std.specs.Prelude.{Result, Ok, Err}
use Rattle.refusals.specs.Outcomes.{refused, answered}
use Rattle.refusals.specs.Named.{number_of}
use Rattle.refusals.specs.declared.Refusal.{Refusal}
use Rattle.semiautomata.specs.Semiautomaton.{Semiautomaton}
use Rattle.semiautomata.specs.Predictability.{Lookahead}
use Rattle.plan.specs.declared.Counts.{Counts}
use Rattle.plan.specs.Bytes.{header_of, meaning, asked, refusal, reading, WellFormed}
use Rattle.plan.proofs.Refusals.{well_formed_range, asked_proper, asked_zero}
use Rattle.plan.proofs.Readings.{reading_refused, reading_well}
use Rattle.table.specs.Table.{lookahead_of, table_meaning, contents}
use Rattle.table.proofs.Form.{Reads}
use Rattle.prepare.specs.Preparing.{prepare_refusal}
use Rattle.prepare.proofs.Refusals.{square, prepare_clear}
use Rattle.inputs.specs.Inputs.{total_of, plan_of, no_plan}
use Rattle.inputs.proofs.Inputs.{whole, same_total, still_plan, same_plan}
use Rattle.slices.specs.declared.Filling.{Filling}
use Rattle.slices.specs.Filling.{HasRoom, Puts}
use Rattle.slices.proofs.Putting.{puts_back, puts_none, puts_on}
use Rattle.lines.specs.Lines.{counts_line, lookahead_line, refused_line}
use Rattle.lines.proofs.Widths.{refused_width}
use Rattle.text.specs.Report.{input_letters, counts_of, AfterLookahead, AfterCounts, predicts, Reports, ill_formed, well_formed}
use Rattle.text.specs.Calls.{table_size, Laid, ReportText}
use Rattle.text.specs.inner.Parts.{Adds, Lays}

-- a refusal's number is small
number_below : (r : Refusal) → number_of r < 256
number_below r = grind arith

-- a line before what follows; g tells which letters follow there
module _ (says says' : List ℕ → List ℕ → Type 0) (g : List ℕ → List ℕ) {old : Filling} {a : List ℕ} {mid : Filling} (p : Puts old a mid)
    (more : (letters text : List ℕ) → says (g letters) text → says' letters (a ++ text)) where
  adds_on : {new : Filling} (later : List ℕ → List ℕ) → Adds says mid new later → Adds says' old new (λ letters. later (g letters))
  adds_on later l =
      record {
        text = a ++ l.text;
        put = puts_on p l.put;
        follows =
            λ letters. rw (append_assoc a l.text (later (g letters))) (more letters (l.text ++ later (g letters)) (l.follows (g letters)));
      }

  pub lays_on : (done : Result (Unit {0}) Refusal) (new : Filling) (later : List ℕ → List ℕ) → Lays says mid done new later
      → Lays says' old done new (λ letters. later (g letters))
  lays_on (Ok _) new later l = adds_on later l
  lays_on (Err r) new later (room, l) = (room, adds_on (λ _. refused_line (number_of r)) l)

-- a refusal, and no more
pub lays_refused : (says : List ℕ → List ℕ → Type 0) (old : Filling) (r : Refusal) → old.at + 19 ≤ length old.out.now
    → ((letters : List ℕ) → says letters (refused_line (number_of r)))
    → HasRoom old (refused_line (number_of r)) × Adds says old old (λ letters. refused_line (number_of r))
lays_refused says old r h is = (
  record { fits = omega (arith, refused_width (number_of r) (number_below r)) },
  record { text = []; put = puts_none old (omega arith); follows = is },
)

-- what is put is laid out, once the buffer is given back; and the line of a refusal behind it
pub laid_back : {says : List ℕ → List ℕ → Type 0} {old new : Filling} {later : List ℕ → List ℕ} → Adds says old new later → {out : List ℕ}
    → (old.out.ghost_name ≡ new.out.ghost_name → out ≡ new.out.now) → Laid says old.out.now old.at new.at out later
laid_back l same = record { text = l.text; put = puts_back l.put same; follows = l.follows }

pub adds_line : {says : List ℕ → List ℕ → Type 0} {old new end : Filling} (line : List ℕ) (later : List ℕ → List ℕ)
    → Adds says old new (λ letters. line ++ later letters) → Puts new line end → Adds says old end later
adds_line {says} line later l p = record {
  text = l.text ++ line;
  put = puts_on l.put p;
  follows = λ letters. rw (append_assoc l.text line (later letters)) (l.follows letters);
}

pub adds_last : {says : List ℕ → List ℕ → Type 0} {old new end : Filling} (line : List ℕ) → Adds says old new (λ letters. line) → Puts new line end
    → Adds says old end (λ letters. [])
adds_last {says} {old} {new} line l p =
    adds_line line (λ letters. [])
    (record { text = l.text; put = l.put; follows = λ letters. rw (append-nil line) (l.follows letters) }) p

-- LINE 2

-- the buffers are long enough for every plan
pub prepare_taken : (plan : List ℕ) → WellFormed plan → (table letters : ℕ) → table_size ≤ table → 4096 ≤ letters
    → prepare_refusal (asked plan 0) table letters ≡ 0
prepare_taken plan w table letters a b =
    let r = well_formed_range plan w in
    let cells : (header_of plan).n * (header_of plan).m ≤ 2048 =
    le_trans (mul-le-mul_right (header_of plan).m r.n_high) (mul-le-mul_left 64 r.m_high) in
    prepare_clear (asked plan 0) (asked_proper plan 0) (asked_zero plan ∙ w) letters (omega arith) (omega (arith, square r.n_high))

pub counted : {S : Semiautomaton} {k : ℕ} {table : List ℕ} → Lookahead S k → Reads (contents S k) table → (letters text : List ℕ)
    → AfterLookahead (table_meaning table) (lookahead_of table) letters text → AfterCounts S letters (lookahead_line k ++ text)
counted {k = k} L t letters text a = predicts k L {text = text} (rw (t.means, t.k_is) at a)

-- THE INPUT

module _ (input : List ℕ) (e : no_plan input ≡ false) (rest : List ℕ) where
  same_letters : input_letters (input ++ rest) ≡ input_letters input ++ rest
  same_letters = rw (same_total input e rest) (drop-append-le (total_of input) input rest (whole input e).there)

  pub report_well : WellFormed (plan_of input) → (text : List ℕ) → AfterCounts (meaning (plan_of input) 0) (input_letters input ++ rest) text
      → Reports (input ++ rest) (counts_of (header_of (plan_of input)) ++ text)
  report_well w text a =
      let same = same_plan input e rest in
      rw (← same) (well_formed (still_plan input e rest) (rw same w) {text = text} (rw (same, same_letters) a))

  pub report_ill : ¬ WellFormed (plan_of input) → Reports (input ++ rest) (refused_line (refusal (plan_of input)))
  report_ill n =
      let same = same_plan input e rest in rw (← same) (ill_formed (still_plan input e rest) (λ w. n (rw same at w)))

-- what is read of the plan tells how the report begins
module _ (input : List ℕ) (e : no_plan input ≡ false) where
  pub read_ill : (r : Refusal) → refused (number_of r) ≡ reading (plan_of input)
      → ¬ WellFormed (plan_of input) × ((rest : List ℕ) → ReportText input rest (refused_line (number_of r)))
  read_ill r d =
      let (is, n) = reading_refused (plan_of input) d in
      let ill : ¬ WellFormed (plan_of input) = λ w. n (is ∙ w) in
      (ill, λ rest told. rw is (report_ill input e rest ill))

  pub read_well : {c : Counts} → answered c ≡ reading (plan_of input)
      → WellFormed (plan_of input)
      × ((rest text : List ℕ) → AfterCounts (meaning (plan_of input) 0) (input_letters input ++ rest) text
      → ReportText input rest (counts_line c.n c.m c.p c.e ++ text))
  read_well {c} d =
      let (w, is) = reading_well (plan_of input) d in
      let same : counts_line c.n c.m c.p c.e ≡ counts_of (header_of (plan_of input)) = ap (λ (c : Counts). counts_line c.n c.m c.p c.e) is in
      (w, λ rest text a told. rw same (report_well input e rest w text a))
