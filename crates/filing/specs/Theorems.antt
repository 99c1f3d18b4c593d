-- What follows of writing (document 02, W-201 and W-207), of any reply and memory that meet its promise; proofs/Theorems.antt has the
-- proofs.
-- Assumes nothing.
use Rattle.std.specs.Prelude.{ℕ, ◌+◌, ◌*◌, ◌≤◌, ◌<◌, ◌≡◌, ◌⊎◌, ◌↔◌, List, length, take, Result, Ok}
use Rattle.refusals.specs.declared.Refusal.{Refusal}
use Rattle.refusals.specs.Outcomes.{answered}
use Rattle.slices.specs.Copying.{at_front}
use Rattle.plan.specs.declared.Counts.{Counts}
use Rattle.plan.specs.declared.Line.{Line}
use Rattle.plan.specs.Plan.{Plan, is_start, is_line}
use Rattle.plan.specs.Bytes.{header_of, line_width, parsed, meaning, counts_of, reading}
use Rattle.plan.specs.declared.Header.{Header}
use Rattle.filing.specs.Filed.{max_written}
use Rattle.filing.specs.Writing.{Writes}

-- These bytes were written for the plan: as many as were answered, at the front of what was lent.
pub record WrittenFor (plan bytes : List ℕ) : Type 0 where
  pub count : ℕ
  pub old : List ℕ
  pub out : List ℕ
  pub writes : Writes plan (Ok count) old out
  pub are : bytes ≡ take count out

-- The header of the form: starts at 16, lines directly after them, and no more.
abbrev pub header_in_order : ℕ → Counts → Header
header_in_order edition c = record {
  edition = edition;
  n = c.n;
  m = c.m;
  p = c.p;
  e = c.e;
  starts = 16;
  lines = 16 + c.p;
  total = 16 + c.p + line_width edition * c.e;
}

-- One line stands before another: by from, then letter (code), then to, then party.
abbrev pub Before : Line → Line → Type 0
Before l k =
    (l.from < k.from)
    ⊎ ((l.from ≡ k.from) × ((l.letter < k.letter)
    ⊎ ((l.letter ≡ k.letter) × ((l.to < k.to)
    ⊎ ((l.to ≡ k.to) × (l.party < k.party))))))

-- Starts and lines ascend, so that each stands there once.
pub record Ascends (P : Plan) : Type 0 where
  pub starts : (i j : ℕ) → i < j → j < P.p → P.start i < P.start j
  pub lines : (i j : ℕ) → i < j → j < P.e → Before (P.line i) (P.line j)

-- Two plans have the same starts and lines, in whatever order they stand.
pub record SameParts (P Q : Plan) : Type 0 where
  pub starts : (s : ℕ) → is_start P s ≡ is_start Q s
  pub lines : (l : Line) → is_line P l ≡ is_line Q l

pub record Theorems : Type 0 where
  -- Reading what was written answers the plan's n, m, p and e, so that none of 1 to 7 and 16 applies;
  pub reads : (plan bytes : List ℕ) → WrittenFor plan bytes → reading bytes ≡ answered (counts_of (header_of plan))
  -- it means what the plan means, for every party;
  pub means : (plan bytes : List ℕ) → WrittenFor plan bytes → (party : ℕ) → meaning bytes party ≡ meaning plan party
  -- it has the plan's starts and lines and no others,
  pub parts : (plan bytes : List ℕ) → WrittenFor plan bytes → SameParts (parsed bytes) (parsed plan)
  -- each once and in order,
  pub order : (plan bytes : List ℕ) → WrittenFor plan bytes → Ascends (parsed bytes)
  -- and no gap: edition and counts are as they were, the header says where the parts stand, and the bytes end with them.
  pub header : (plan bytes : List ℕ) → WrittenFor plan bytes
      → (header_of bytes ≡ header_in_order (header_of plan).edition (counts_of (header_of plan))) × (length bytes ≡ (header_of bytes).total)
  -- It has no more bytes than the form of the largest plan.
  pub most : (plan bytes : List ℕ) → WrittenFor plan bytes → length bytes ≤ max_written
  -- Within one edition equal n, m, starts and lines give equal bytes, different ones different bytes; so do different editions.
  pub equal : (plan bytes plan' bytes' : List ℕ) → WrittenFor plan bytes → WrittenFor plan' bytes'
      → (bytes ≡ bytes')
      ↔ (((parsed plan).edition ≡ (parsed plan').edition) × ((parsed plan).n ≡ (parsed plan').n) × ((parsed plan).m ≡ (parsed plan').m)
      × SameParts (parsed plan) (parsed plan'))
  -- Writing what was written gives the same bytes, wherever there is room for them.
  pub again : (plan bytes : List ℕ) → WrittenFor plan bytes → (a : Result ℕ Refusal) (old out : List ℕ) → Writes bytes a old out
      → length bytes ≤ length old → (a ≡ Ok (length bytes)) × (out ≡ at_front bytes old)
