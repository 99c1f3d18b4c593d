-- The prepared plan of document 01, a list of 64-bit numbers: n, m, k, the starts, then at 4 + stake × m + code the set of stakes led to.
-- Assumes nothing.
use Rattle.std.specs.Prelude.{ℕ, ◌+◌, ◌*◌, ◌^◌, ◌≤◌, Bool, false, not, ◌||◌, ltb, leb, length, get_or, drop}
use mathlib.Core.List.{List, [], ◌∷◌, ◌++◌, map, flat_map}
use Rattle.bitset.specs.Sets.{any}
use Rattle.bitset.specs.Numbers.{set_of}
use Rattle.semiautomata.specs.Semiautomaton.{Semiautomaton}
use Rattle.semiautomata.specs.Sizes.{max_states, max_letters, most_ahead, Sized}
use Rattle.refusals.specs.Checks.{Check, within}
use Rattle.semiautomata.specs.Lists.{range}
use Rattle.semiautomata.specs.Successors.{successors}

-- WHAT A TABLE MEANS

-- The numbers at the front, and where the successor sets begin.
abbrev pub states_of : List ℕ → ℕ
states_of table = get_or table 0 0

abbrev pub letters_of : List ℕ → ℕ
letters_of table = get_or table 1 0

abbrev pub lookahead_of : List ℕ → ℕ
lookahead_of table = get_or table 2 0

abbrev pub initial_of : List ℕ → ℕ
initial_of table = get_or table 3 0

abbrev pub sets_from : ℕ
sets_from = 4

abbrev pub sets_of : List ℕ → List ℕ
sets_of table = drop sets_from table

-- What a table means.
abbrev pub table_meaning : List ℕ → Semiautomaton
table_meaning table = successors (states_of table) (letters_of table) (initial_of table) (sets_of table)

-- What a table holds: the semiautomaton that it means, and its look-ahead.
pub record Contents : Type 0 where
  pub means : Semiautomaton
  pub lookahead : ℕ

abbrev pub contents : Semiautomaton → ℕ → Contents
contents S k = record { means = S; lookahead = k }

abbrev pub contents_of : List ℕ → Contents
contents_of table = contents (table_meaning table) (lookahead_of table)

-- The tests of refusal 8, in the document's order: shorter than its form needs, n or m out of range, k above n (n - 1) / 2, a set with
-- a bit n or higher.
abbrev pub table_tests : List ℕ → List Bool
table_tests table =
    ltb (length table) (sets_from + states_of table * letters_of table)
    ∷ not (within 1 max_states (states_of table))
    ∷ not (within 1 max_letters (letters_of table))
    ∷ ltb (most_ahead (states_of table)) (lookahead_of table)
    ∷ leb (2 ^ states_of table) (initial_of table)
    ∷ any (states_of table * letters_of table) (λ i. leb (2 ^ states_of table) (get_or (sets_of table) i 0))
    ∷ []

-- some test of a list holds
abbrev pub one_of : List Bool → Bool
one_of [] = false
one_of (b ∷ bs) = b || one_of bs

-- Refusal 8 applies.
unfoldable pub unfit : List ℕ → Bool
unfit table = one_of (table_tests table)

-- .. as a call's check.
abbrev pub table_check : List ℕ → Check
table_check table = record { number = 8; applies = unfit table }

-- THE PREPARED FORM

-- The sets of S: for each state in order and each letter in order, the states that it leads to.
abbrev pub sets_in_order : Semiautomaton → List ℕ
sets_in_order S = flat_map (λ q. map (λ a. set_of S.n (S.edge q a)) (range 0 S.m)) (range 0 S.n)

-- The prepared form: n, m, k, the set of initial states, then the sets.
abbrev pub table_of : Contents → List ℕ
table_of C = let S = C.means in S.n ∷ S.m ∷ C.lookahead ∷ set_of S.n S.initial ∷ sets_in_order S

-- That form at the front of a buffer that keeps its rest: what preparing leaves.
abbrev pub laid_out : Contents → List ℕ → List ℕ
laid_out C old = table_of C ++ drop (length (table_of C)) old

-- What is meant has the sizes of a plan, and its look-ahead is no more than one can be.
pub record Preparable (C : Contents) : Type 0 where
  pub sized : Sized C.means
  pub lookahead : C.lookahead ≤ most_ahead C.means.n
