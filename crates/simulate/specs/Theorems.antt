-- What follows of the promises of this crate: steps along a word lead where it leads, a whole walk's sets are Theorem 3's, a word on the
-- plan is walked to its end, steps and whole walks agree, and there is one verdict.
-- proofs/Theorems.antt has the proofs.
-- Assumes nothing.
use Rattle.std.specs.Prelude.{ℕ, suc, ◌^◌, ◌≤◌, ◌<◌, true, false, ◌↔◌, ◌≡◌, List, [], ◌∷◌, length, get_or, take, drop, Result, Ok}
use Rattle.std.proofs.Math.Option.{some}
use Rattle.bitset.specs.Sets.{size}
use Rattle.bitset.specs.Numbers.{has}
use Rattle.semiautomata.specs.Semiautomaton.{Semiautomaton, Spells}
use Rattle.semiautomata.specs.Predictability.{Critical, member, named}
use Rattle.semiautomata.specs.Walks.{OnPlan, LedTo, Longest, PossibleAt}
use Rattle.semiautomata.specs.Sizes.{max_states}
use Rattle.table.specs.Table.{states_of, letters_of, initial_of, table_meaning, unfit}
use Rattle.walks.specs.declared.Gathered.{Gathered}
use Rattle.walks.specs.Walking.{Letters}
use Rattle.refusals.specs.declared.Refusal.{Refusal}
use Rattle.simulate.specs.declared.Verdict.{Verdict}
use Rattle.simulate.specs.Stepping.{gathered_of, StepsTo, StepsAlong}
use Rattle.simulate.specs.Walking.{Walks}
use Rattle.simulate.specs.Verdicts.{Stands, Tells, Judges}

pub record Theorems : Type 1 where
  -- one number stands for a set
  pub one_set : (n : ℕ) (P : ℕ → Type 0) (a b : ℕ) → Stands n P a → Stands n P b → a ≡ b
  -- ONE STEP (W-204)
  -- a step leads to the states that the letter leads to from the set, in as many rounds as the set has members
  pub stepped : (table : List ℕ) (set a : ℕ) (g : Gathered) → StepsTo table set a (Ok g)
      → Stands (states_of table) (LedTo (table_meaning table) (has set) (a ∷ [])) g.set × (g.rounds ≡ size (states_of table) (has set))
  -- .. at most 64
  pub few_rounds : (table : List ℕ) (set a : ℕ) (g : Gathered) → StepsTo table set a (Ok g) → g.rounds ≤ max_states
  -- with a fit table no set of its states and no letter of it is refused
  pub step_taken : (table : List ℕ) (set a : ℕ) (s : Result Gathered Refusal) → unfit table ≡ false → set < 2 ^ states_of table
      → a < letters_of table → StepsTo table set a s → s ≡ Ok (gathered_of (table_meaning table) set a)
  -- .. so that steps can be taken along any word of such letters, each from where the one before has led
  pub steps_on : (table : List ℕ) (set : ℕ) (word : List ℕ) → unfit table ≡ false → set < 2 ^ states_of table
      → Letters (letters_of table) word → (last : ℕ) × StepsAlong table set word last
  -- steps along a word lead to the states that the word leads to, and from the initial states to those that it reaches
  pub along : (table : List ℕ) (set : ℕ) (word : List ℕ) (last : ℕ) → unfit table ≡ false → set < 2 ^ states_of table
      → StepsAlong table set word last → Stands (states_of table) (LedTo (table_meaning table) (has set) word) last
  pub along_starts : (table word : List ℕ) (last : ℕ) → unfit table ≡ false → StepsAlong table (initial_of table) word last
      → Stands (states_of table) (LedTo (table_meaning table) (table_meaning table).initial word) last
  -- WHOLE WALKS
  -- a whole walk answers the length of its longest beginning on the plan; the numbers at positions 0 to it stand for Theorem 3's sets, and
  -- the rest of the buffer is as it was
  pub walked : (table word : List ℕ) (g : ℕ) (old out : List ℕ) → Walks table word (Ok g) old out
      → Longest (table_meaning table) word g
      × ((i : ℕ) → i ≤ g → Stands (states_of table) (PossibleAt (table_meaning table) word i) (get_or out i 0))
      × (drop (suc g) out ≡ drop (suc g) old)
      × (length out ≡ length old)
  -- a word that is on the plan is walked to its end, with a fit table and room for all its positions
  pub to_its_end : (table word : List ℕ) (a : Result ℕ Refusal) (old out : List ℕ) → unfit table ≡ false → OnPlan (table_meaning table) word
      → length word < length old → Walks table word a old out → a ≡ Ok (length word)
  -- steps from the initial states along a whole walk lead somewhere exactly as far as it goes; of the states led to, its sets have those
  -- from which it goes on; and its last set is what they lead to
  pub walk_along : (table word : List ℕ) (g : ℕ) (old out : List ℕ) → Walks table word (Ok g) old out
      → (i last : ℕ) → i ≤ length word → StepsAlong table (initial_of table) (take i word) last
      → ((i ≤ g) ↔ ¬ (last ≡ 0))
      × (i ≤ g → (x : ℕ) → (has (get_or out i 0) x ≡ true) ↔ ((has last x ≡ true) × Spells (table_meaning table) x (drop i (take g word))))
      × (i ≡ g → last ≡ get_or out g 0)
  -- VERDICTS
  -- a word has one verdict
  pub one_verdict : (S : Semiautomaton) (T : Critical) (word : List ℕ) (v w : Verdict) → Tells S T word v → Tells S T word w → v ≡ w
  -- a critical set without states gives empty sets and no selector
  pub empty_set : (table : List ℕ) (q a : ℕ) (word : List ℕ) (T : Critical) → named (table_meaning table) q a ≡ some T
      → ((t : ℕ) → member (table_meaning table) T t ≡ false) → (v : Verdict) → Judges table q a word (Ok v)
      → v ≡ record { survivors = 0; minimal = false; nonselected = 0 }
