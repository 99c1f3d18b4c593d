-- What follows of the steps: one after the other, on what each leaves to the next, they print the report, and an input has only one.
-- Assumes nothing.
use Rattle.std.specs.Prelude.{ℕ, ◌≡◌, List, [], ◌∷◌, ◌++◌, replicate}
use Rattle.samples.specs.Plans.{bytes, A, B}
use Rattle.steps.specs.declared.Stage.TheVariants.{Plan}
use Rattle.text.specs.Report.{Reports}
use Rattle.text.specs.Calls.{table_size, record_size}
use Rattle.steps.specs.Steps.{Runs}

-- Plan A and three letters, the sample of document 01, and its six lines.
abbrev pub sample_input : List ℕ
sample_input = bytes A ++ (0 ∷ 0 ∷ 0 ∷ [])

abbrev pub sample_text : List ℕ
sample_text =
    -- `stakes 3 codes 1 starts 1 lines 3`
    115 ∷ 116 ∷ 97 ∷ 107 ∷ 101 ∷ 115 ∷ 32 ∷ 51 ∷ 32 ∷ 99 ∷ 111 ∷ 100 ∷ 101 ∷ 115 ∷ 32 ∷ 49
    ∷ 32 ∷ 115 ∷ 116 ∷ 97 ∷ 114 ∷ 116 ∷ 115 ∷ 32 ∷ 49 ∷ 32 ∷ 108 ∷ 105 ∷ 110 ∷ 101 ∷ 115 ∷ 32 ∷ 51 ∷ 10
    -- `look-ahead 1`
    ∷ 108 ∷ 111 ∷ 111 ∷ 107 ∷ 45 ∷ 97 ∷ 104 ∷ 101 ∷ 97 ∷ 100 ∷ 32 ∷ 49 ∷ 10
    -- `at 0 stake 0`
    ∷ 97 ∷ 116 ∷ 32 ∷ 48 ∷ 32 ∷ 115 ∷ 116 ∷ 97 ∷ 107 ∷ 101 ∷ 32 ∷ 48 ∷ 10
    -- `at 1 stake 1`
    ∷ 97 ∷ 116 ∷ 32 ∷ 49 ∷ 32 ∷ 115 ∷ 116 ∷ 97 ∷ 107 ∷ 101 ∷ 32 ∷ 49 ∷ 10
    -- `at 2 stake 1`
    ∷ 97 ∷ 116 ∷ 32 ∷ 50 ∷ 32 ∷ 115 ∷ 116 ∷ 97 ∷ 107 ∷ 101 ∷ 32 ∷ 49 ∷ 10
    -- `open 3 stakes 1 2`
    ∷ 111 ∷ 112 ∷ 101 ∷ 110 ∷ 32 ∷ 51 ∷ 32 ∷ 115 ∷ 116 ∷ 97 ∷ 107 ∷ 101 ∷ 115 ∷ 32 ∷ 49 ∷ 32 ∷ 50 ∷ 10
    ∷ []

-- Plan B and two letters, and its two lines.
abbrev pub refused_sample : List ℕ
refused_sample = bytes B ++ (0 ∷ 0 ∷ [])

abbrev pub refused_text : List ℕ
refused_text =
    -- `stakes 2 codes 1 starts 1 lines 3`
    115 ∷ 116 ∷ 97 ∷ 107 ∷ 101 ∷ 115 ∷ 32 ∷ 50 ∷ 32 ∷ 99 ∷ 111 ∷ 100 ∷ 101 ∷ 115 ∷ 32 ∷ 49
    ∷ 32 ∷ 115 ∷ 116 ∷ 97 ∷ 114 ∷ 116 ∷ 115 ∷ 32 ∷ 49 ∷ 32 ∷ 108 ∷ 105 ∷ 110 ∷ 101 ∷ 115 ∷ 32 ∷ 51 ∷ 10
    -- `refused 15 author`
    ∷ 114 ∷ 101 ∷ 102 ∷ 117 ∷ 115 ∷ 101 ∷ 100 ∷ 32 ∷ 49 ∷ 53 ∷ 32 ∷ 97 ∷ 117 ∷ 116 ∷ 104 ∷ 111 ∷ 114 ∷ 10
    ∷ []

-- The program's table and record, as it begins.
abbrev pub zero_table : List ℕ
zero_table = replicate table_size 0

abbrev pub zero_record : List ℕ
zero_record = replicate record_size 0

pub record Theorems (input : List ℕ) : Type 0 where
  -- a run from the first stage on, with the input cut into reads in any way, prints the report of the input
  pub run_reports : (table bytes text : List ℕ) → Runs (Plan 0 16) [] table bytes input text → Reports input text
  -- an input has one report
  pub unique : (a b : List ℕ) → Reports input a → Reports input b → a ≡ b
  -- the sample has its six lines
  pub sample_printed : Reports sample_input sample_text
  -- runs there are: of the sample, from the program's own table and record, to those six lines, and of plan B, which ends with line 2
  pub sample_run : Runs (Plan 0 16) [] zero_table zero_record sample_input sample_text
  pub refused_run : Runs (Plan 0 16) [] zero_table zero_record refused_sample refused_text
