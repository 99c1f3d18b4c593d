-- Preparing and the count call (document 01, The count; Prepared plan): their refusals in order, and what they answer and write.
-- Assumes nothing.
use Rattle.std.specs.Prelude.{ℕ, ◌+◌, ◌*◌, Bool, ◌||◌, ◌⊎◌, ◌≡◌, List, ltb, length, drop, Result, Ok, Err}
use Rattle.semiautomata.specs.Semiautomaton.{Semiautomaton}
use Rattle.semiautomata.specs.Predictability.{Lookahead}
use Rattle.semiautomata.specs.Predictability as predictability
use Rattle.refusals.specs.Outcomes.{Outcome, refused, answered, refusing}
use Rattle.refusals.specs.Named.{number_of}
use Rattle.plan.specs.Asked.{Asked, refusal_of, refusal_with}
use Rattle.table.specs.Table.{sets_from, Contents, contents, laid_out}
use Rattle.lookahead.specs.declared.Evidence.{Evidence}
use Rattle.lookahead.specs.Answers.{TrueOf}
use Rattle.prepare.specs.declared.Unprepared.{Unprepared}
use Rattle.prepare.specs.declared.Unprepared.TheVariants.{Refused, Unpredictable}

-- 9: a lent buffer is too short: 4 + n × m numbers for preparing, n × n bytes for the evidence.
abbrev pub short_table : Semiautomaton → ℕ → Bool
short_table S size = ltb size (sets_from + S.n * S.m)

abbrev pub short_letters : Semiautomaton → ℕ → Bool
short_letters S size = ltb size (S.n * S.n)

-- The refusals of the count call and of preparing before 15, with buffers of these lengths.
abbrev pub count_refusal : Asked → ℕ → ℕ
count_refusal A letters = refusal_with A (short_letters A.means letters)

abbrev pub prepare_refusal : Asked → ℕ → ℕ → ℕ
prepare_refusal A table letters = refusal_with A (short_table A.means table || short_letters A.means letters)

-- The evidence is a true claim with the letters now lent, of which those past its lengths are kept.
pub record Shown (S : Semiautomaton) (e : Evidence) (old letters : List ℕ) : Type 0 where
  pub claimed : TrueOf S e letters
  pub kept : drop (e.stem + e.cycle) letters ≡ drop (e.stem + e.cycle) old

-- What preparing and the count call answer: k. 15 comes with evidence.
abbrev pub Prepared : Type 0
Prepared = Result ℕ Unprepared

abbrev pub outcome_of_prepared : Prepared → Outcome ℕ
outcome_of_prepared (Ok k) = answered k
outcome_of_prepared (Err (Refused r)) = refused (number_of r)
outcome_of_prepared (Err (Unpredictable e)) = refused 15

-- The look-ahead of S as it is answered where the first refusal before 15 that applies has this number, 0 if none applies: that refusal;
-- 15 where no k exists; else k.
abbrev pub LooksAhead : ℕ → Semiautomaton → Outcome ℕ → Type 0
LooksAhead refusal S (refused r) = ((r ≡ refusal) × ¬ (r ≡ 0)) ⊎ ((refusal ≡ 0) × (r ≡ 15) × predictability.Unpredictable S)
LooksAhead refusal S (answered k) = (refusal ≡ 0) × Lookahead S k

-- What is left in the lent letters: the evidence under 15, which never comes without it, and else what stood there.
abbrev pub LeavesLetters : Semiautomaton → Prepared → List ℕ → List ℕ → Type 0
LeavesLetters S (Ok k) old letters = letters ≡ old
LeavesLetters S (Err (Refused r)) old letters = ¬ (number_of r ≡ 15) × (letters ≡ old)
LeavesLetters S (Err (Unpredictable e)) old letters = Shown S e old letters

-- .. and in the lent table: the form of what it is to hold with k, the rest of the buffer as it was; and else what stood there.
abbrev pub LeavesTable : (ℕ → Contents) → Prepared → List ℕ → List ℕ → Type 0
LeavesTable holds (Ok k) old table = table ≡ laid_out (holds k) old
LeavesTable holds (Err (Refused r)) old table = table ≡ old
LeavesTable holds (Err (Unpredictable e)) old table = table ≡ old

-- What preparing gives.
abbrev pub Prepares : Asked → Prepared → List ℕ → List ℕ → List ℕ → List ℕ → Type 0
Prepares A a old table old' letters =
    LooksAhead (prepare_refusal A (length old) (length old')) A.means (outcome_of_prepared a)
    × LeavesTable (contents A.means) a old table
    × LeavesLetters A.means a old' letters

-- What the count call gives: the same without a table.
abbrev pub CountsTo : Asked → Prepared → List ℕ → List ℕ → Type 0
CountsTo A a old letters =
    LooksAhead (count_refusal A (length old)) A.means (outcome_of_prepared a) × LeavesLetters A.means a old letters

-- What the drawing program's entry answers, as one number: k, or 65,536 plus the refusal.
abbrev pub as_number : Outcome ℕ → ℕ
as_number (answered k) = k
as_number (refused r) = refusing r

pub record Draws (A : Asked) (r : ℕ) : Type 0 where
  pub outcome : Outcome ℕ
  pub looks_ahead : LooksAhead (refusal_of A) A.means outcome
  pub is : r ≡ as_number outcome
