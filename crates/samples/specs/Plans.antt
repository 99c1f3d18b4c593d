-- Document 01's plans A to H as it lists them, each with its look-ahead, D's as W-202 has it; and plans of our own: C numbered so that a
-- round in place would go wrong, three of which some stakes are abandoned, and two of edition 2, asked for several parties (W-207). And
-- plans that are refused, each for the party that is named.
-- Assumes nothing.
use Rattle.std.specs.Prelude.{ℕ, ◌≡◌, List, [], ◌∷◌, map}
use Rattle.std.proofs.Math.Option.{Option, some, none}
use Rattle.semiautomata.specs.Lists.{range}
use Rattle.semiautomata.specs.Semiautomaton.{Semiautomaton}
use Rattle.semiautomata.specs.Predictability.{Lookahead, Unpredictable}
use Rattle.plan.specs.declared.Line.{Line}
use Rattle.plan.specs.Plan.{Plan, line}
use Rattle.plan.specs.Asked.{refusal_of, Passes}
use Rattle.plan.specs.Bytes.{parsed, meaning, asked}
use Rattle.plan.specs.Written.{Listed, plan_bytes}
use Rattle.plan.specs.Parties.{Alone}

-- A plan, the party that is asked for, and its look-ahead then, `none` where there is none (15).
pub record Sample : Type 0 where
  pub plan : Listed
  pub party : ℕ
  pub lookahead : Option ℕ

abbrev pub bytes : Sample → List ℕ
bytes s = plan_bytes s.plan

-- A line of edition 1, whose party is 0.
abbrev pub line1 : ℕ → ℕ → ℕ → Line
line1 from letter to = line from letter to 0

-- Of edition 1: n and m, the starts, the lines, the look-ahead.
abbrev pub sample : ℕ → ℕ → List ℕ → List Line → Option ℕ → Sample
sample n m starts lines k =
    record { plan = record { edition = 1; n = n; m = m; starts = starts; lines = lines }; party = 0; lookahead = k }

-- A plan asked for a party, which then has this look-ahead.
abbrev pub for_party : Listed → ℕ → Option ℕ → Sample
for_party plan party k = record { plan = plan; party = party; lookahead = k }

abbrev pub A : Sample
A = sample 3 1 (0 ∷ []) (line1 0 0 1 ∷ line1 1 0 1 ∷ line1 1 0 2 ∷ []) (some 1)

abbrev pub B : Sample
B = sample 2 1 (0 ∷ []) (line1 0 0 0 ∷ line1 0 0 1 ∷ line1 1 0 1 ∷ []) none

abbrev pub C : Sample
C = sample 4 2 (0 ∷ 1 ∷ []) (line1 0 0 2 ∷ line1 1 0 2 ∷ line1 2 1 3 ∷ []) (some 3)

abbrev pub D : Sample
D = sample 3 1 (0 ∷ []) (line1 0 0 0 ∷ line1 1 0 1 ∷ line1 1 0 2 ∷ line1 2 0 2 ∷ []) (some 0)

abbrev pub E : Sample
E = sample 1 1 [] [] (some 0)

abbrev pub F : Sample
F = sample 2 1 (0 ∷ 1 ∷ []) [] (some 1)

abbrev pub G : Sample
G = sample 3 2 (0 ∷ 1 ∷ []) (line1 0 0 1 ∷ line1 1 0 2 ∷ line1 1 1 0 ∷ line1 2 1 2 ∷ []) (some 3)

abbrev pub H : Sample
H = sample 4 2 (0 ∷ 1 ∷ []) (line1 0 0 2 ∷ line1 1 0 2 ∷ line1 2 1 3 ∷ line1 3 1 3 ∷ []) none

-- C with 0, 1, 2, 3 numbered 2, 3, 1, 0
abbrev pub C' : Sample
C' = sample 4 2 (2 ∷ 3 ∷ []) (line1 2 0 1 ∷ line1 3 0 1 ∷ line1 1 1 0 ∷ []) (some 3)

-- B and a stake 2 that no walk reaches, which names the fork set of stake 0 too
abbrev pub B' : Sample
B' = sample 3 1 (0 ∷ []) (line1 0 0 0 ∷ line1 0 0 1 ∷ line1 1 0 1 ∷ line1 2 0 0 ∷ line1 2 0 1 ∷ []) none

-- B without a start: nothing but the empty set of starts counts
abbrev pub B'' : Sample
B'' = sample 2 1 [] (line1 0 0 0 ∷ line1 0 0 1 ∷ line1 1 0 1 ∷ []) (some 0)

-- no walk reaches stake 0, which has a fork; a forged record may begin there
abbrev pub D' : Sample
D' = sample 2 2 (1 ∷ []) (line1 0 0 0 ∷ line1 0 0 1 ∷ []) (some 0)

-- EDITION 2

-- T, of two parties: party 0 walks plan A's lines and party 1 plan B's; party 2 has none
abbrev pub of_two : Listed
of_two = record {
  edition = 2;
  n = 3;
  m = 1;
  starts = 0 ∷ [];
  lines = line 0 0 1 0 ∷ line 0 0 0 1 ∷ line 0 0 1 1 ∷ line 1 0 1 0 ∷ line 1 0 1 1 ∷ line 1 0 2 0 ∷ [];
}

abbrev pub T₀ : Sample
T₀ = for_party of_two 0 (some 1)

abbrev pub T₁ : Sample
T₁ = for_party of_two 1 none

abbrev pub T₂ : Sample
T₂ = for_party of_two 2 (some 0)

-- S, the same but for the party: two lines differ in it alone; for party 7 both starts can go on for ever, for party 0 only one of them
-- can go on at all
abbrev pub in_party_alone : Listed
in_party_alone = record { edition = 2; n = 2; m = 1; starts = 0 ∷ 1 ∷ []; lines = line 0 0 0 7 ∷ line 0 0 0 0 ∷ line 1 0 0 7 ∷ [] }

abbrev pub S₀ : Sample
S₀ = for_party in_party_alone 0 (some 1)

abbrev pub S₇ : Sample
S₇ = for_party in_party_alone 7 none

abbrev pub samples : List Sample
samples = A ∷ B ∷ C ∷ D ∷ E ∷ F ∷ G ∷ H ∷ C' ∷ B' ∷ B'' ∷ D' ∷ T₀ ∷ T₁ ∷ T₂ ∷ S₀ ∷ S₇ ∷ []

-- REFUSED

-- A plan, the party that is named, and the refusal of every call that names it.
pub record Turned : Type 0 where
  pub plan : Listed
  pub party : ℕ
  pub number : ℕ

-- The refusal that it gets.
abbrev pub refusal_of_turned : Turned → ℕ
refusal_of_turned t = refusal_of (asked (plan_bytes t.plan) t.party)

-- a plan of two states and a letter, of an edition, with these lines
abbrev pub turned : ℕ → List Line → ℕ → ℕ → Turned
turned edition lines party number =
    record { plan = record { edition = edition; n = 2; m = 1; starts = 0 ∷ []; lines = lines }; party = party; number = number }

-- An edition that is neither 1 nor 2; two lines that are equal, also of a party above 7; two that differ in such a party alone; 6 does not
-- look at the party, and goes before 16; a party above 7 is named; a party other than 0 is named for edition 1.
abbrev pub refusals : List Turned
refusals =
    turned 0 [] 0 2
    ∷ turned 3 [] 0 2
    ∷ turned 1 (line1 0 0 1 ∷ line1 0 0 1 ∷ []) 0 7
    ∷ turned 2 (line 0 0 1 1 ∷ line 0 0 1 1 ∷ []) 0 7
    ∷ turned 2 (line 0 0 1 200 ∷ line 0 0 1 200 ∷ []) 0 7
    ∷ turned 2 (line 0 0 1 9 ∷ line 0 0 1 17 ∷ []) 0 16
    ∷ turned 2 (line 0 0 1 8 ∷ []) 0 16
    ∷ turned 2 (line 0 0 1 8 ∷ line 0 1 1 0 ∷ []) 0 6
    ∷ turned 2 (line 0 0 1 0 ∷ []) 8 16
    ∷ turned 1 (line1 0 0 1 ∷ []) 3 16
    ∷ turned 1 (line1 0 0 1 ∷ line1 0 0 1 ∷ []) 3 7
    ∷ []

-- Plan A's bytes, as document 01 has them in hexadecimal.
abbrev pub bytes_of_a : List ℕ
bytes_of_a = 1 ∷ 0 ∷ 3 ∷ 0 ∷ 1 ∷ 0 ∷ 1 ∷ 0 ∷ 3 ∷ 0 ∷ 16 ∷ 0 ∷ 17 ∷ 0 ∷ 26 ∷ 0 ∷ 0 ∷ 0 ∷ 0 ∷ 1 ∷ 1 ∷ 0 ∷ 1 ∷ 1 ∷ 0 ∷ 2 ∷ []

-- What the look-ahead of a sample says of the semiautomaton that it means.
abbrev pub Ahead : Semiautomaton → Option ℕ → Type 0
Ahead S (some k) = Lookahead S k
Ahead S none = Unpredictable S

-- The bytes hold the edition, the counts, the starts and the lines that are listed.
pub record ReadBack (P : Listed) (plan : Plan) : Type 0 where
  pub edition : plan.edition ≡ P.edition
  pub n : plan.n ≡ P.n
  pub m : plan.m ≡ P.m
  pub starts : map plan.start (range 0 plan.p) ≡ P.starts
  pub lines : map plan.line (range 0 plan.e) ≡ P.lines

-- The plan is read back as it is listed, may be asked for the party, and has that look-ahead or none.
pub record AsSaid (s : Sample) : Type 0 where
  pub read_back : ReadBack s.plan (parsed (bytes s))
  pub passes : Passes (asked (bytes s) s.party)
  pub ahead : Ahead (meaning (bytes s) s.party) s.lookahead

abbrev pub All : List Sample → Type 0
All [] = Unit {0}
All (s ∷ ss) = AsSaid s × All ss

-- What is proved: of every sample; that the others are refused as is said; and that plan A is document 01's to the byte.
pub record Theorems : Type 0 where
  pub hold : All samples
  pub turned_down : map refusal_of_turned refusals ≡ map (λ (t : Turned). t.number) refusals
  -- plan A has the lines of party 0 of the first plan of edition 2 alone
  pub alone : Alone (parsed (bytes T₀)) 0 (parsed (bytes A))
  pub as_document : bytes A ≡ bytes_of_a
