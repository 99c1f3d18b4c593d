-- Plan bytes (document 01; edition 2: document 02, W-207): what stands where, what the bytes mean, and refusals 1 to 7 and 16.
-- Assumes nothing.
use Rattle.std.specs.Prelude.{ℕ, ◌+◌, ◌*◌, Bool, not, cond, ◌&&◌, ◌||◌, List, [], ◌∷◌, ◌++◌, eqb, ltb, leb, length, get_or}
use Rattle.semiautomata.specs.Semiautomaton.{Semiautomaton}
use Rattle.endian.specs.Numbers.{number_at}
use Rattle.refusals.specs.Checks.{Check}
use Rattle.refusals.specs.Outcomes.{Outcome, refused, answered}
use Rattle.plan.specs.Plan.{Plan, line, semiautomaton, count_off, start_off, line_off, line_twice, has_parties, party_high, party_off}
use Rattle.plan.specs.Asked.{Asked, refusal_of, Passes}
use Rattle.plan.specs.declared.Header.{Header}
use Rattle.plan.specs.declared.Line.{Line}
use Rattle.plan.specs.declared.Counts.{Counts}

-- Eight little-endian 16-bit numbers, in order: edition, n, m, p, e, offset of starts, offset of lines, total length.
abbrev pub header_of : List ℕ → Header
header_of plan = record {
  edition = number_at plan 0 2;
  n = number_at plan 2 2;
  m = number_at plan 4 2;
  p = number_at plan 6 2;
  e = number_at plan 8 2;
  starts = number_at plan 10 2;
  lines = number_at plan 12 2;
  total = number_at plan 14 2;
}

-- A line has so many bytes by its edition: from, code, to, and in edition 2 the party.
abbrev pub line_width : ℕ → ℕ
line_width edition = cond (has_parties edition) 4 3

abbrev pub line_from : List ℕ → ℕ → ℕ → Line
line_from plan at party = line (get_or plan at 0) (get_or plan (at + 1) 0) (get_or plan (at + 2) 0) party

abbrev pub line_at : ℕ → List ℕ → ℕ → Line
line_at edition plan at = line_from plan at (cond (has_parties edition) (get_or plan (at + 3) 0) 0)

-- The plan that the bytes hold where a header says: a start is one byte, a line is lineWidth bytes.
abbrev pub parsed_by : Header → List ℕ → Plan
parsed_by h plan = record {
  edition = h.edition;
  n = h.n;
  m = h.m;
  p = h.p;
  e = h.e;
  start = λ i. get_or plan (h.starts + i) 0;
  line = λ i. line_at h.edition plan (h.lines + line_width h.edition * i);
}

abbrev pub parsed : List ℕ → Plan
parsed plan = parsed_by (header_of plan) plan

-- What plan bytes mean for a party.
abbrev pub meaning : List ℕ → ℕ → Semiautomaton
meaning plan party = semiautomaton (parsed plan) party

-- A part of so many bytes begins at 16 or later and ends no later than the total; two non-empty parts don't overlap.
abbrev pub placed : ℕ → ℕ → ℕ → Bool
placed total at size = leb 16 at && leb (at + size) total

abbrev pub overlap : ℕ → ℕ → ℕ → ℕ → Bool
overlap at size at' size' = (ltb 0 size && ltb 0 size') && (ltb at (at' + size') && ltb at' (at + size))

abbrev pub misplaced : Header → Bool
misplaced h =
    let size = line_width h.edition * h.e in
    not (placed h.total h.starts h.p) || (not (placed h.total h.lines size) || overlap h.starts h.p h.lines size)

-- Refusals 1 to 4, in order, of so many bytes with this header.
abbrev pub header_checks : ℕ → Header → List Check
header_checks size h =
    record { number = 1; applies = ltb size 16 || not (eqb h.total size) }
    ∷ record { number = 2; applies = not (eqb h.edition 1 || eqb h.edition 2) }
    ∷ record { number = 3; applies = count_off h.n h.m h.p h.e }
    ∷ record { number = 4; applies = misplaced h }
    ∷ []

-- Refusals 5 to 7 and then 16, in order.
abbrev pub part_checks : Plan → List Check
part_checks P =
    record { number = 5; applies = start_off P }
    ∷ record { number = 6; applies = line_off P }
    ∷ record { number = 7; applies = line_twice P }
    ∷ record { number = 16; applies = party_high P }
    ∷ []

-- Refusals 1 to 7 and 16 of the bytes alone, in order.
unfoldable pub plan_checks : List ℕ → List Check
plan_checks plan = header_checks (length plan) (header_of plan) ++ part_checks (parsed plan)

-- What a call asks that names no party (reading and writing): nothing but that the bytes pass.
abbrev pub unnamed : List ℕ → Asked
unnamed plan = record { checks = plan_checks plan; means = meaning plan 0 }

-- The first that applies, 0 if none does; a plan is well formed if none applies.
abbrev pub refusal : List ℕ → ℕ
refusal plan = refusal_of (unnamed plan)

abbrev pub WellFormed : List ℕ → Type 0
WellFormed plan = Passes (unnamed plan)

-- What a call asks that names a party: 16 of the party too, and then what the plan means for it.
unfoldable pub asked_checks : List ℕ → ℕ → List Check
asked_checks plan party = plan_checks plan ++ (record { number = 16; applies = party_off (header_of plan).edition party } ∷ [])

abbrev pub asked : List ℕ → ℕ → Asked
asked plan party = record { checks = asked_checks plan party; means = meaning plan party }

-- What reading answers: the header's counts, or the refusal.
abbrev pub counts_of : Header → Counts
counts_of h = record { n = h.n; m = h.m; p = h.p; e = h.e }

abbrev pub reading : List ℕ → Outcome Counts
reading plan = cond (eqb (refusal plan) 0) (answered (counts_of (header_of plan))) (refused (refusal plan))
