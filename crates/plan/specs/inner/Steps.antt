-- What the steps of loading promise each other.
-- Assumes nothing.
use Rattle.std.specs.Prelude.{ℕ, ◌*◌, ◌^◌, ◌≤◌, ◌<◌, Bool, true, false, ◌&&◌, ◌≡◌, List, eqb, ltb, length, get_or, Result, Ok, Err}
use Rattle.bitset.specs.Numbers.{has, set_of}
use Rattle.refusals.specs.Named.{number_of}
use Rattle.refusals.specs.declared.Refusal.{Refusal}
use Rattle.refusals.specs.declared.Refusal.TheVariants.{Start, Line}
use Rattle.semiautomata.specs.Successors.{set_at}
use Rattle.plan.specs.declared.Lines.{Lines}
use Rattle.plan.specs.Plan.{Plan, same_line, is_start, semiautomaton, max_party, twice, start_off, line_off, party_high}
use Rattle.semiautomata.specs.Sizes.{max_sets}

-- What is found is the refusal of this number; where it is 0, none.
abbrev pub Finds : {A : Type 0} → Result A Refusal → ℕ → Type 0
Finds (Ok _) number = number ≡ 0
Finds (Err r) number = number_of r ≡ number

-- The starts are entered, or 5 applies.
abbrev pub StartsEntered : Plan → Result ℕ Refusal → Type 0
StartsEntered P (Ok set) = (start_off P ≡ false) × (set ≡ set_of P.n (is_start P))
StartsEntered P (Err r) = (start_off P ≡ true) × (r ≡ Start)

-- A line of the party stands twice.
abbrev pub twice_of : Plan → ℕ → Bool
twice_of P party = twice P.e (λ i j. eqb (P.line j).party party && same_line (P.line i) (P.line j))

-- The lines of a party are read, and those whose numbers are below their counts entered; whether the numbers of one are not, and where
-- none are off, whether one of the party stands twice; of the parties of all lines the highest, so that 16 is found.
pub record LinesRead (P : Plan) (party : ℕ) (sets : List ℕ) (off : Bool) (r : Lines) : Type 0 where
  pub size : length sets ≡ max_sets
  pub below : (j : ℕ) → j < P.n * P.m → get_or sets j 0 < 2 ^ P.n
  pub edges : (q a t : ℕ) → q < P.n → a < P.m → t < P.n → has (set_at P.m sets q a) t ≡ (semiautomaton P party).edge q a t
  pub off_is : off ≡ line_off P
  pub twice_is : off ≡ false → r.twice ≡ twice_of P party
  pub none_higher : (i : ℕ) → i < P.e → (P.line i).party ≤ r.highest
  pub high_is : ltb max_party r.highest ≡ party_high P

-- The lines of a party are entered, or 6 applies.
abbrev pub LinesEntered : Plan → ℕ → List ℕ → Result Lines Refusal → Type 0
LinesEntered P party sets (Ok l) = LinesRead P party sets false l
LinesEntered P party sets (Err r) = (line_off P ≡ true) × (r ≡ Line)
