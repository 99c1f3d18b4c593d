-- What the calls answer on plans A to H, as documents 01 and 02 say it, and on plans of our own: the look-ahead, the possible states of a
-- walk, verdicts, opening; claims said yes and no, a forged record that meets 14 (W-202), and the need of each critical set (W-205).
-- Assumes nothing.
use Rattle.std.specs.Prelude.{ℕ, ◌+◌, ◌-◌, ◌*◌, ◌/◌, ◌≤◌, ◌<◌, Bool, true, false, ◌≡◌, List, [], ◌∷◌, length, get_or, Result, Ok}
use Rattle.std.proofs.Math.Option.{Option, some, none}
use Rattle.semiautomata.specs.Sizes.{endless, unmeasured}
use Rattle.streaming.specs.Calls as reply
use Rattle.refusals.specs.Outcomes.{refused, answered}
use Rattle.refusals.specs.Named.{outcome_of}
use Rattle.refusals.specs.declared.Refusal.{Refusal}
use Rattle.plan.specs.Asked.{Asked}
use Rattle.plan.specs.Bytes.{asked}
use Rattle.samples.specs.Plans.{Sample, bytes, AsSaid, A, B, C, D, E, F, G, H, C', B', B'', D', T₀, T₁, T₂, S₀, S₇}
use Rattle.table.specs.Table.{sets_from}
use Rattle.lookahead.specs.declared.Evidence.{Evidence}
use Rattle.claim.specs.Checking.{Checks}
use Rattle.prepare.specs.Preparing.{Prepared, outcome_of_prepared, Prepares, CountsTo, Draws}
use Rattle.slices.specs.Copying.{at_front}
use Rattle.needs.specs.Needs.{NeedsOf}
use Rattle.simulate.specs.declared.Verdict.{Verdict}
use Rattle.simulate.specs.Walking.{Walks}
use Rattle.simulate.specs.Verdicts.{Judges}
use Rattle.records.specs.Bytes.{held_from}
use Rattle.deciding.specs.Replies.{Answer, said}
use Rattle.predictor.specs.Calls.{Opens, Feeds}
use Rattle.demand.specs.Demand.{Made}

-- What is said beside the look-ahead: a walk wholly on the plan, with the possible states at each position; the verdict on a word for the
-- fork set of a state and a letter; that opening is refused with 13; that the look-ahead is the bound itself; that a claim with these
-- letters is said yes; that every claim about the fork set of this state and letter is said no; that this letter fed to these record
-- bytes is refused with 14; the needs of the critical sets.
pub data Saying : Type 0 where
  walked : List ℕ → List ℕ → Saying
  judged : ℕ → ℕ → List ℕ → Verdict → Saying
  unopened : Saying
  at_bound : Saying
  claimed : Evidence → List ℕ → Saying
  uncounted : ℕ → ℕ → Saying
  forged : List ℕ → ℕ → Saying
  needed : List ℕ → Saying

-- A sample, and what else is said of it.
pub record Row : Type 0 where
  pub sample : Sample
  pub sayings : List Saying

-- What preparing and the count call answer, and the number that the drawing program gets.
abbrev pub Replied : Option ℕ → Prepared → Type 0
Replied (some k) r = outcome_of_prepared r ≡ answered k
Replied none r = outcome_of_prepared r ≡ refused 15

abbrev pub drawn : Option ℕ → ℕ
drawn (some k) = k
drawn none = 65551

-- What is said beside is so of the calls, those on a table being lent one that preparing made from what is asked.
abbrev pub IsSo : Asked → Saying → Type 0
IsSo A (walked word sets) =
    (k : ℕ) (table old out : List ℕ) (a : Result ℕ Refusal) → Made A k table → length word < length old → Walks table word a old out
    → (a ≡ Ok (length word)) × ((i : ℕ) → i ≤ length word → get_or out i 0 ≡ get_or sets i 0)
IsSo A (judged q a word v) = (k : ℕ) (table : List ℕ) (r : Result Verdict Refusal) → Made A k table → Judges table q a word r → r ≡ Ok v
IsSo A unopened =
    (k : ℕ) (table bytes left : List ℕ) (a : Answer) → Made A k table → held_from + k ≤ length bytes → Opens table bytes a left
    → said a ≡ reply.refused 13
IsSo A at_bound = (k : ℕ) (table : List ℕ) → Made A k table → k ≡ A.means.n * (A.means.n - 1) / 2
IsSo A (claimed e letters) = (r : Result Bool Refusal) → Checks A e letters r → r ≡ Ok true
IsSo A (uncounted q a) =
    (e : Evidence) (letters : List ℕ) (r : Result Bool Refusal) → e.state ≡ q → e.letter ≡ a → Checks A e letters r → r ≡ Ok false
IsSo A (forged bytes letter) =
    (k : ℕ) (table left : List ℕ) (a : Answer) → Made A k table → Feeds table bytes letter a left → said a ≡ reply.refused 14
IsSo A (needed numbers) =
    (a : Result ℕ Refusal) (old needs : List ℕ) → length numbers ≤ length old → NeedsOf A a old needs
    → (outcome_of a ≡ answered (length numbers)) × (needs ≡ at_front numbers old)

abbrev pub AllSo : Asked → List Saying → Type 0
AllSo A [] = Unit {0}
AllSo A (c ∷ cs) = IsSo A c × AllSo A cs

-- What a row says of what is asked of its plan: the calls answer its look-ahead, or 15, the drawing program's entry where the party is 0,
-- which it names; what else is said is so.
pub record RowHolds (A : Asked) (party : ℕ) (lookahead : Option ℕ) (sayings : List Saying) : Type 0 where
  pub counted : (a : Prepared) (old letters : List ℕ) → A.means.n * A.means.n ≤ length old
      → CountsTo A a old letters
      → Replied lookahead a
  pub prepared : (a : Prepared) (old table old' letters : List ℕ) → sets_from + A.means.n * A.means.m ≤ length old
      → A.means.n * A.means.n ≤ length old' → Prepares A a old table old' letters → Replied lookahead a
  pub drew : party ≡ 0 → (x : ℕ) → Draws A x → x ≡ drawn lookahead
  pub so : AllSo A sayings

-- What is asked of a sample: its plan, for its party.
abbrev pub asked_of : Sample → Asked
asked_of s = asked (bytes s) s.party

-- The sample is as said, and the row holds.
abbrev pub AllRows : List Row → Type 0
AllRows [] = Unit {0}
AllRows (r ∷ rs) = AsSaid r.sample × RowHolds (asked_of r.sample) r.sample.party r.sample.lookahead r.sayings × AllRows rs

abbrev pub row : Sample → List Saying → Row
row sample sayings = record { sample = sample; sayings = sayings }

abbrev pub verdict : ℕ → Bool → ℕ → Verdict
verdict alive least stuck = record { survivors = alive; minimal = least; nonselected = stuck }

abbrev pub evidence : ℕ → ℕ → ℕ → ℕ → ℕ → ℕ → Evidence
evidence state letter low high stem cycle =
    record { state = state; letter = letter; low = low; high = high; stem = stem; cycle = cycle }

-- Of edition 2 (W-207): one plan asked for three parties, and one for two.
abbrev pub party_rows : List Row
party_rows =
    row T₀ (walked (0 ∷ 0 ∷ 0 ∷ []) (1 ∷ 2 ∷ 2 ∷ 6 ∷ []) ∷ needed (0 ∷ 0 ∷ 1 ∷ unmeasured ∷ []) ∷ [])
    ∷ row T₁ (claimed (evidence 0 0 0 1 0 1) (0 ∷ []) ∷ needed (0 ∷ endless ∷ 0 ∷ unmeasured ∷ []) ∷ [])
    ∷ row T₂ (walked [] (1 ∷ []) ∷ needed (0 ∷ unmeasured ∷ unmeasured ∷ unmeasured ∷ []) ∷ [])
    ∷ row S₀ (walked [] (3 ∷ []) ∷ needed (1 ∷ 0 ∷ unmeasured ∷ []) ∷ [])
    ∷ row S₇ (needed (endless ∷ 0 ∷ 0 ∷ []) ∷ [])
    ∷ []

-- Of each sample whose look-ahead is 1 or more a walk is shown with two or more states at a position that exactly k - 1 letters follow
-- (W-203): of A and of T₀ at position 3, of the others at 0.
abbrev pub rows : List Row
rows =
    row A (
    judged 1 0 [] (verdict 6 false 4)
    ∷ judged 1 0 (0 ∷ []) (verdict 2 true 0)
    ∷ walked (0 ∷ 0 ∷ 0 ∷ []) (1 ∷ 2 ∷ 2 ∷ 6 ∷ [])
    ∷ needed (0 ∷ 0 ∷ 1 ∷ unmeasured ∷ [])
    ∷ []
    )
    ∷ row B (needed (0 ∷ endless ∷ 0 ∷ []) ∷ [])
    ∷ row C (
    walked (0 ∷ 1 ∷ []) (3 ∷ 4 ∷ 8 ∷ [])
    ∷ needed (3 ∷ 0 ∷ unmeasured ∷ 0 ∷ unmeasured ∷ unmeasured ∷ 0 ∷ unmeasured ∷ unmeasured ∷ [])
    ∷ []
    )
    ∷ row D (uncounted 1 0 ∷ judged 1 0 [] (verdict 6 false 0) ∷ needed (0 ∷ 0 ∷ unmeasured ∷ unmeasured ∷ []) ∷ [])
    ∷ row E (unopened ∷ needed (unmeasured ∷ unmeasured ∷ []) ∷ [])
    ∷ row F (walked [] (3 ∷ []) ∷ needed (1 ∷ unmeasured ∷ unmeasured ∷ []) ∷ [])
    ∷ row G (at_bound ∷ walked (0 ∷ 1 ∷ []) (3 ∷ 6 ∷ 5 ∷ []) ∷ needed (3 ∷ 0 ∷ unmeasured ∷ 0 ∷ 0 ∷ unmeasured ∷ 0 ∷ []) ∷ [])
    ∷ row H (needed (endless ∷ 0 ∷ unmeasured ∷ 0 ∷ unmeasured ∷ unmeasured ∷ 0 ∷ unmeasured ∷ 0 ∷ []) ∷ [])
    ∷ row C' (
    walked (0 ∷ 1 ∷ []) (12 ∷ 2 ∷ 1 ∷ [])
    ∷ needed (3 ∷ unmeasured ∷ unmeasured ∷ unmeasured ∷ 0 ∷ 0 ∷ unmeasured ∷ 0 ∷ unmeasured ∷ [])
    ∷ []
    )
    ∷ row B' (
    claimed (evidence 0 0 0 1 0 1) (0 ∷ [])
    ∷ uncounted 2 0
    ∷ needed (0 ∷ endless ∷ 0 ∷ unmeasured ∷ [])
    ∷ []
    )
    ∷ row B'' (unopened ∷ uncounted 0 0 ∷ needed (unmeasured ∷ unmeasured ∷ unmeasured ∷ []) ∷ [])
    ∷ row D' (
    forged (5 ∷ 0 ∷ 0 ∷ 0 ∷ 0 ∷ 0 ∷ 0 ∷ 0 ∷ []) 0
    ∷ uncounted 0 0
    ∷ needed (0 ∷ unmeasured ∷ unmeasured ∷ unmeasured ∷ unmeasured ∷ [])
    ∷ []
    )
    ∷ party_rows
