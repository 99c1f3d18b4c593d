-- The report's lines as bytes (document 01, The report). A line ends in a line feed.
-- Assumes nothing.
use Rattle.std.specs.Prelude.{ℕ, Bool, Option, None, Some, List, [], ◌∷◌, ◌++◌}
use Rattle.slices.specs.Appending.{passing}
use Rattle.decimals.specs.Decimals.{decimal}
use Rattle.bitset.specs.Numbers.{has}
use Rattle.refusals.specs.declared.Group.{Group}
use Rattle.refusals.specs.declared.Group.TheVariants.{Author, Caller, Logger}
use Rattle.refusals.specs.Groups.{group_of}

-- The words, with the spaces that stand beside them.
-- `stakes `, ` codes `, ` starts `, ` lines `
abbrev pub stakes : List ℕ
stakes = 115 ∷ 116 ∷ 97 ∷ 107 ∷ 101 ∷ 115 ∷ 32 ∷ []

abbrev pub codes : List ℕ
codes = 32 ∷ 99 ∷ 111 ∷ 100 ∷ 101 ∷ 115 ∷ 32 ∷ []

abbrev pub starts : List ℕ
starts = 32 ∷ 115 ∷ 116 ∷ 97 ∷ 114 ∷ 116 ∷ 115 ∷ 32 ∷ []

abbrev pub lines : List ℕ
lines = 32 ∷ 108 ∷ 105 ∷ 110 ∷ 101 ∷ 115 ∷ 32 ∷ []

-- `look-ahead `
abbrev pub look_ahead : List ℕ
look_ahead = 108 ∷ 111 ∷ 111 ∷ 107 ∷ 45 ∷ 97 ∷ 104 ∷ 101 ∷ 97 ∷ 100 ∷ 32 ∷ []

-- `at `, ` stake `
abbrev pub at_word : List ℕ
at_word = 97 ∷ 116 ∷ 32 ∷ []

abbrev pub stake : List ℕ
stake = 32 ∷ 115 ∷ 116 ∷ 97 ∷ 107 ∷ 101 ∷ 32 ∷ []

-- `open `, ` stakes`, and a space before each of them
abbrev pub open_word : List ℕ
open_word = 111 ∷ 112 ∷ 101 ∷ 110 ∷ 32 ∷ []

abbrev pub stakes_are : List ℕ
stakes_are = 32 ∷ 115 ∷ 116 ∷ 97 ∷ 107 ∷ 101 ∷ 115 ∷ []

abbrev pub space : List ℕ
space = 32 ∷ []

-- `refused `
abbrev pub refused_word : List ℕ
refused_word = 114 ∷ 101 ∷ 102 ∷ 117 ∷ 115 ∷ 101 ∷ 100 ∷ 32 ∷ []

-- ` author`, ` caller`, ` logger`; a number that is no refusal has no word
abbrev pub group_word : Option Group → List ℕ
group_word (Some Author) = 32 ∷ 97 ∷ 117 ∷ 116 ∷ 104 ∷ 111 ∷ 114 ∷ []
group_word (Some Caller) = 32 ∷ 99 ∷ 97 ∷ 108 ∷ 108 ∷ 101 ∷ 114 ∷ []
group_word (Some Logger) = 32 ∷ 108 ∷ 111 ∷ 103 ∷ 103 ∷ 101 ∷ 114 ∷ []
group_word None = []

abbrev pub line_feed : List ℕ
line_feed = 10 ∷ []

-- A word and its number.
unfoldable pub field : List ℕ → ℕ → List ℕ
field word x = word ++ decimal x

-- `stakes 3 codes 1 starts 1 lines 3`
unfoldable pub counts_line : ℕ → ℕ → ℕ → ℕ → List ℕ
counts_line n m p e = field stakes n ++ field codes m ++ field starts p ++ field lines e ++ line_feed

-- `look-ahead 1`
unfoldable pub lookahead_line : ℕ → List ℕ
lookahead_line k = field look_ahead k ++ line_feed

-- `refused 13 logger`
unfoldable pub refused_line : ℕ → List ℕ
refused_line number = field refused_word number ++ group_word (group_of number) ++ line_feed

-- `at 0 stake 0`: a resolution (booking)
unfoldable pub resolution_line : ℕ → ℕ → List ℕ
resolution_line position state = field at_word position ++ field stake state ++ line_feed

-- The states below n of a set, ascending, a space before each.
abbrev pub listed : ℕ → (ℕ → Bool) → List ℕ
listed n p = passing n p (field space)

-- `open 3 stakes 1 2`: a position that is not resolved, with the set of its possible states as a 64-bit number
unfoldable pub open_line : ℕ → ℕ → List ℕ
open_line position set = field open_word position ++ stakes_are ++ listed 64 (has set) ++ line_feed
