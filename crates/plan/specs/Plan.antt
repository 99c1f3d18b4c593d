-- A plan as documents 01 and 02 (W-207: parties) speak of it, read off its bytes or written down, and the semiautomaton that it means.
-- Assumes nothing.
use Rattle.std.specs.Prelude.{ℕ, Bool, not, ◌&&◌, ◌||◌, eqb, ltb, leb}
use Rattle.bitset.specs.Sets.{any}
use Rattle.semiautomata.specs.Semiautomaton.{Semiautomaton}
use Rattle.semiautomata.specs.Sizes.{max_states, max_letters, max_lines}
use Rattle.refusals.specs.Checks.{within}
use Rattle.plan.specs.declared.Line.{Line}

-- The line from, letter (code), to, of a party.
abbrev pub line : ℕ → ℕ → ℕ → ℕ → Line
line from letter to party = record { from = from; letter = letter; to = to; party = party }

-- A party is a number from 0 to 7 (document 02, W-207).
abbrev pub max_party : ℕ
max_party = 7

-- The edition, the counts of states and letters, of starts and of lines, and the start and the line at each place of their lists.
pub record Plan : Type 0 where
  pub edition : ℕ
  pub n : ℕ
  pub m : ℕ
  pub p : ℕ
  pub e : ℕ
  pub start : ℕ → ℕ
  pub line : ℕ → Line

-- The line says that letter a leads from s to t for a party.
abbrev pub says : Line → ℕ → ℕ → ℕ → ℕ → Bool
says l s a t party = eqb l.from s && (eqb l.letter a && (eqb l.to t && eqb l.party party))

-- Two lines are the same if all their numbers are.
abbrev pub same_line : Line → Line → Bool
same_line l k = says l k.from k.letter k.to k.party

-- s is one of the starts; l is one of the lines.
abbrev pub is_start : Plan → ℕ → Bool
is_start P s = any P.p (λ i. eqb (P.start i) s)

abbrev pub is_line : Plan → Line → Bool
is_line P l = any P.e (λ i. same_line (P.line i) l)

-- What a plan means for a party: a state is initial if some start is it; there is an edge if some line of the party says so.
abbrev pub semiautomaton : Plan → ℕ → Semiautomaton
semiautomaton P party = record { n = P.n; m = P.m; initial = is_start P; edge = λ s a t. is_line P (line s a t party) }

-- WHAT MAKES A PLAN UNFIT, by the number of its refusal

-- 3: a count out of range: n is from 1 to 64, m from 1 to 32, p from 0 to n, e from 0 to 4,096
abbrev pub count_off : ℕ → ℕ → ℕ → ℕ → Bool
count_off n m p e = not (within 1 max_states n) || (not (within 1 max_letters m) || (ltb n p || ltb max_lines e))

-- two places of a list of c hold the same
abbrev pub twice : ℕ → (ℕ → ℕ → Bool) → Bool
twice c same = any c (λ j. any j (λ i. same i j))

-- 5: a start not below n, or twice
abbrev pub start_high : Plan → Bool
start_high P = any P.p (λ i. leb P.n (P.start i))

abbrev pub start_off : Plan → Bool
start_off P = start_high P || twice P.p (λ i j. eqb (P.start i) (P.start j))

-- 6: a line's from, letter or to not below its count; its party does not matter here
abbrev pub line_fits : Plan → Line → Bool
line_fits P l = ltb l.from P.n && (ltb l.letter P.m && ltb l.to P.n)

abbrev pub line_off : Plan → Bool
line_off P = any P.e (λ i. not (line_fits P (P.line i)))

-- 7: a line twice
abbrev pub line_twice : Plan → Bool
line_twice P = twice P.e (λ i j. same_line (P.line i) (P.line j))

-- In edition 2 each line belongs to a party; in edition 1 none names one, and all are of party 0.
abbrev pub has_parties : ℕ → Bool
has_parties edition = eqb edition 2

-- 16: a party above 7 in a line
abbrev pub party_high : Plan → Bool
party_high P = any P.e (λ i. ltb max_party (P.line i).party)

-- 16 of a call that names a party: one above 7, or other than 0 for edition 1
abbrev pub party_off : ℕ → ℕ → Bool
party_off edition party = ltb max_party party || (not (has_parties edition) && not (eqb party 0))
