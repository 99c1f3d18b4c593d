-- What is proved of these definitions, a line of plain words to each theorem. proofs/Theorems.antt has the proof of them all.
-- Assumes nothing.
use Rattle.std.specs.Prelude.{ℕ, ◌+◌, ◌-◌, ◌*◌, ◌/◌, ◌≤◌, ◌<◌, Bool, true, ◌≡◌, ◌⊎◌, ◌↔◌, List, ◌++◌, length}
use Rattle.semiautomata.specs.Semiautomaton.{Semiautomaton, Within, Spells, Accessible, Sub}
use Rattle.semiautomata.specs.Predictability.{Critical, member, Counts, Share, Clash, SomeClash, SetPredictable, Need}
use Rattle.semiautomata.specs.Predictability.{Predictable, Lookahead, Unpredictable, Claim, Witness}
use Rattle.semiautomata.specs.Access.{accessible, trim}
use Rattle.semiautomata.specs.Wide.{LookaheadWide, UnpredictableWide}
use Rattle.semiautomata.specs.Levels.{live, counts, clash_in, clash, Repeats}
use Rattle.semiautomata.specs.Walks.{Walkable, OnPlan, LedTo, Longest, Possible, PossibleAt, spells, reach, survivors, walkable}
use Rattle.semiautomata.specs.Walks.{possible, longest}
use Rattle.semiautomata.specs.Waiting.{InDoubt, Certain, LeastWait}
use Rattle.semiautomata.specs.Selectors.{Survives, Selector, MinimalSelector, MaximalNonselector, selector, minimal_selector}
use Rattle.semiautomata.specs.Selectors.{maximal_nonselector}

-- X is a set of states of S.
abbrev pub Below : Semiautomaton → (ℕ → Bool) → Type 0
Below S X = (s : ℕ) → X s ≡ true → s < S.n

pub record Theorems (S : Semiautomaton) : Type 0 where
  -- THE LOOK-AHEAD
  -- there is one k at the most, and where there is one, S is not unpredictable
  pub unique : (j k : ℕ) → Lookahead S j → Lookahead S k → j ≡ k
  pub predicts : (k : ℕ) → Lookahead S k → ¬ Unpredictable S
  -- there is a k, or S is unpredictable
  pub either : Within S → ((k : ℕ) × Lookahead S k) ⊎ Unpredictable S
  -- unpredictable exactly if there is a witness
  pub witness : Within S → Unpredictable S → (c : Claim) × Witness S c
  pub refutes : (c : Claim) → Witness S c → Unpredictable S
  -- .. and it is the witness's set that no number of letters decides
  pub refutes_set : (c : Claim) → Witness S c → (k : ℕ) → ¬ SetPredictable S (member S c.set) k
  -- k is at most n (n - 1) / 2 (Theorem 5), and at most n - 1 where there is only one letter (Proposition 6)
  pub bound : Within S → (k : ℕ) → Lookahead S k → k ≤ S.n * (S.n - 1) / 2
  pub bound_one_letter : Within S → S.m ≡ 1 → (k : ℕ) → Lookahead S k → k ≤ S.n - 1
  -- what j letters decide, more letters decide: of one set (Remark 1), and of the whole
  pub more_of_set : (X : ℕ → Bool) (j k : ℕ) → j ≤ k → SetPredictable S X j → SetPredictable S X k
  pub more : (j k : ℕ) → j ≤ k → Predictable S j → Predictable S k
  -- the need of one set: there is one at the most, and there is one or the set is k-predictable for no k
  pub need_unique : (X : ℕ → Bool) (j k : ℕ) → Need S X j → Need S X k → j ≡ k
  pub need_either : Within S → (X : ℕ → Bool) → Below S X → ((k : ℕ) × Need S X k) ⊎ ((k : ℕ) → ¬ SetPredictable S X k)
  -- it is at most n (n - 1) / 2, as the look-ahead is
  pub need_bound : Within S → (X : ℕ → Bool) → Below S X → (k : ℕ) → Need S X k → k ≤ S.n * (S.n - 1) / 2
  -- a smaller semiautomaton shares no more words, so it needs no more letters
  pub smaller_shares : (L : Semiautomaton) → Sub S L → (j s t : ℕ) → Share S j s t → Share L j s t
  pub smaller_needs : (L : Semiautomaton) → Sub S L → (k : ℕ) → Predictable L k → Predictable S k
  -- ACCESSIBLE STATES (W-202)
  -- the test that computes says what it means
  pub accessible_is : Within S → (q : ℕ) → (accessible S q ≡ true) ↔ Accessible S q
  -- the sets that count ask for no more letters than all sets do, and where they have no k, all sets have none
  pub never_more : (j k : ℕ) → Lookahead S j → LookaheadWide S k → j ≤ k
  pub wide_missing : Unpredictable S → UnpredictableWide S
  -- 003 compared: the look-ahead of S is exactly 003's of S without its unreachable states, and there is none where 003 has none
  pub trimmed : Within S → (k : ℕ) → Lookahead S k ↔ LookaheadWide (trim S) k
  pub trimmed_missing : Within S → Unpredictable S ↔ UnpredictableWide (trim S)
  -- what is left is a semiautomaton of the same accessible states; every state of an edge is one of them, and no edge of theirs is lost
  pub trimmed_within : Within S → Within (trim S)
  pub trimmed_accessible : Within S → (q : ℕ) → Accessible S q ↔ Accessible (trim S) q
  pub trimmed_edge : (q a t : ℕ) → (trim S).edge q a t ≡ true → Accessible S q × Accessible S t
  pub trimmed_kept : Within S → (q a t : ℕ) → Accessible S q → S.edge q a t ≡ true → (trim S).edge q a t ≡ true
  -- LEVELS
  -- level j has the pairs that share a word of j letters; a clash at level j is two rivals among them
  pub level : Within S → (j s t : ℕ) → (live S j s t ≡ true) ↔ Share S j s t
  pub level_set : Within S → (X : ℕ → Bool) → Below S X → (j : ℕ) → (clash_in S X j ≡ true) ↔ Clash S X j
  pub level_counts : Within S → (T : Critical) → (counts S T ≡ true) ↔ Counts S T
  pub level_clash : Within S → (j : ℕ) → (clash S j ≡ true) ↔ SomeClash S j
  -- a level that repeats is for ever, and if it has a clash, there is no k
  pub level_stays : (j : ℕ) → Repeats S j → (i : ℕ) → j ≤ i → (s t : ℕ) → s < S.n → t < S.n → live S i s t ≡ live S j s t
  pub level_endless : Within S → (j : ℕ) → Repeats S j → clash S j ≡ true → Unpredictable S
  -- WALKS
  -- the tests that compute say what they mean
  pub spells_is : Within S → (w : List ℕ) (s : ℕ) → (spells S w s ≡ true) ↔ Spells S s w
  pub reach_is : Within S → (X : ℕ → Bool) (w : List ℕ) (t : ℕ) → (reach S X w t ≡ true) ↔ LedTo S X w t
  pub walkable_is : Within S → (X : ℕ → Bool) → Below S X → (w : List ℕ) → (walkable S X w ≡ true) ↔ Walkable S X w
  pub possible_is : Within S → (X : ℕ → Bool) (w : List ℕ) (i x : ℕ) → (possible S X w i x ≡ true) ↔ Possible S X w i x
  -- there is one longest beginning on the plan where there is an initial state
  pub longest_unique : (w : List ℕ) (g h : ℕ) → Longest S w g → Longest S w h → g ≡ h
  pub longest_is : Within S → (s : ℕ) → S.initial s ≡ true → (w : List ℕ) → Longest S w (longest S w)
  -- where the whole walk is on the plan, its possible states are those of its letters walked from the initial states; they are accessible
  pub whole_walk : (w : List ℕ) → OnPlan S w → (i x : ℕ) → i ≤ length w → PossibleAt S w i x ↔ Possible S S.initial w i x
  pub possible_accessible : (w : List ℕ) (i x : ℕ) → Possible S S.initial w i x → Accessible S x
  -- Theorem 3's sets never grow with later letters
  pub never_grow : (X : ℕ → Bool) (w v : List ℕ) (i x : ℕ) → i ≤ length w → Possible S X (w ++ v) i x → Possible S X w i x
  -- WAITING (W-203)
  -- no letter is waited for in vain: where the look-ahead k is 1 or more, a word of at most n + k letters has a position in doubt that
  -- k - 1 letters follow
  pub none_for_nothing : Within S → (k : ℕ) → 1 ≤ k → Lookahead S k → (d : InDoubt S (k - 1)) × (length d.word ≤ S.n + k)
  -- the look-ahead is the least number of letters that make every position certain, and where there is none, any number of letters leaves
  -- some position in doubt
  pub least_wait : Within S → (k : ℕ) → Lookahead S k ↔ LeastWait S k
  pub endless_doubt : Within S → Unpredictable S ↔ ((j : ℕ) → InDoubt S j)
  -- j letters make every position certain exactly if they leave none in doubt, and they leave one in doubt exactly if two different states
  -- of a critical set that counts share a word of j letters
  pub certain_is : (j : ℕ) → Certain S j ↔ ¬ InDoubt S j
  pub doubt_is : Within S → (j : ℕ) → InDoubt S j ↔ SomeClash S j
  -- VERDICTS, for any set of states: the tests that compute say what they mean
  pub survivors_is : Within S → (X : ℕ → Bool) → Below S X → (w : List ℕ) (t : ℕ) → (survivors S X w t ≡ true) ↔ Survives S X w t
  pub selector_is : Within S → (X : ℕ → Bool) → Below S X → (w : List ℕ) → (selector S X w ≡ true) ↔ Selector S X w
  pub minimal_is : Within S → (X : ℕ → Bool) → Below S X → (w : List ℕ) → (minimal_selector S X w ≡ true) ↔ MinimalSelector S X w
  pub maximal_is : Within S → (X : ℕ → Bool) → Below S X → (w : List ℕ) (t : ℕ)
      → (maximal_nonselector S X w t ≡ true) ↔ MaximalNonselector S X w t
