-- Demand 3 (the user's term 3; document 01, Walks), of any calls that keep their promises, lent a table for which preparing's promise held;
-- and what else follows of such a table.
-- Assumes nothing.
use Rattle.std.specs.Prelude.{ℕ, ◌+◌, ◌-◌, ◌*◌, ◌/◌, ◌^◌, ◌≤◌, ◌<◌, true, false, ◌↔◌, ◌≡◌, List, [], ◌∷◌, map, length, get_or, Bool, Result, Ok, Err}
use Rattle.bitset.specs.Numbers.{has}
use Rattle.semiautomata.specs.Such.{TwoSuch}
use Rattle.semiautomata.specs.Semiautomaton.{Reached}
use Rattle.semiautomata.specs.Predictability.{Lookahead}
use Rattle.streaming.specs.Calls.{refused}
use Rattle.streaming.specs.Demand3.{Only11to13, Demand3}
use Rattle.streaming.specs.Streaming.{base}
use Rattle.plan.specs.Asked.{Asked, Passes, Proper}
use Rattle.plan.specs.Bytes.{asked}
use Rattle.table.specs.Table.{sets_from}
use Rattle.lookahead.specs.declared.Evidence.{Evidence}
use Rattle.claim.specs.Checking.{Checks}
use Rattle.refusals.specs.declared.Refusal.{Refusal}
use Rattle.prepare.specs.declared.Unprepared.TheVariants.{Unpredictable}
use Rattle.prepare.specs.Preparing.{Prepared, Prepares, CountsTo}
use Rattle.prepare.specs.Theorems.{EitherCall, Right}
use Rattle.simulate.specs.Walking.{Walks}
use Rattle.records.specs.Bytes.{held_from, decode}
use Rattle.deciding.specs.Replies.{Answer, said}
use Rattle.predictor.specs.Calls.{Opens, Feeds}

-- Preparing made the table from what was asked and answered k: its promise held of what it was lent and what it left.
pub record Made (A : Asked) (k : ℕ) (table : List ℕ) : Type 0 where
  pub old : List ℕ
  pub old_letters : List ℕ
  pub letters : List ℕ
  pub prepared : Prepares A (Ok k) old table old_letters letters

-- Letters offered one after the other, and the answers: each call is lent the table unchanged, and the bytes that the call before, taken
-- or refused, left.
pub data Feeding (table : List ℕ) : List ℕ → List ℕ → List Answer → Type 0 where
  none : {bytes : List ℕ} → Feeding table bytes [] []
  more : {bytes left : List ℕ} {letter : ℕ} {answer : Answer} {letters : List ℕ} {answers : List Answer}
      → Feeds table bytes letter answer left → Feeding table left letters answers
      → Feeding table bytes (letter ∷ letters) (answer ∷ answers)

-- The same from opening on, in bytes of any content, at least 8 + k of them.
pub record Walk (table : List ℕ) (k : ℕ) (offered : List ℕ) (first : Answer) (answers : List Answer) : Type 0 where
  pub bytes : List ℕ
  pub room : held_from + k ≤ length bytes
  pub left : List ℕ
  pub opening : Opens table bytes first left
  pub feeding : Feeding table left offered answers

-- Opening was not refused.
abbrev pub Taken : Answer → Type 0
Taken first = (r : ℕ) → ¬ (said first ≡ refused r)

-- A word and a position of it that exactly j letters follow, such that a whole walk of it with this table goes to its end and shows at
-- least two different states there.
pub record ShownInDoubt (table : List ℕ) (j : ℕ) : Type 0 where
  pub word : List ℕ
  pub position : ℕ
  pub later : position + j ≡ length word
  pub shown : (a : Result ℕ Refusal) (old out : List ℕ) → length word < length old → Walks table word a old out
      → (a ≡ Ok (length word)) × TwoSuch (λ x. has (get_or out position 0) x ≡ true)

-- What follows of a table that preparing made.
pub record Theorems (A : Asked) (k : ℕ) (table : List ℕ) (made : Made A k table) : Type 0 where
  -- opening with 8 + k bytes or more is refused exactly if there are no starts, and then with 13
  pub opening_refused : (bytes : List ℕ) (a : Answer) (left : List ℕ) → held_from + k ≤ length bytes → Opens table bytes a left
      → ((s : ℕ) → A.means.initial s ≡ false) → said a ≡ refused 13
  pub opening_taken : (bytes : List ℕ) (a : Answer) (left : List ℕ) → held_from + k ≤ length bytes → Opens table bytes a left
      → Taken a ↔ ((s : ℕ) × (A.means.initial s ≡ true))
  -- 14 is met on no record whose base some walk from a start reaches (the starts, or a reachable stake), whatever its bytes are else;
  -- a forged record can meet it, where no walk reaches its booked stake (W-202; specs/Rows, plan D')
  pub never_14 : (bytes : List ℕ) (letter : ℕ) (a : Answer) (left : List ℕ) → Reached A.means (base A.means k (decode bytes))
      → Feeds table bytes letter a left → ¬ (said a ≡ refused 14)
  -- and it is never met from a fresh opening on: only 11, 12 and 13 are
  pub fresh_refusals : (offered : List ℕ) (first : Answer) (answers : List Answer) → Walk table k offered first answers → Taken first
      → Only11to13 (map said (first ∷ answers))
  -- W-203 as whole walks show it: where k is 1 or more, one of at most n + k letters has two states at a position that exactly k - 1
  -- letters follow; and all have one state at each position that k or more letters on the plan follow
  pub two_shown : 1 ≤ k → (d : ShownInDoubt table (k - 1)) × (length d.word ≤ A.means.n + k)
  pub one_shown : (word : List ℕ) (g : ℕ) (old out : List ℕ) → Walks table word (Ok g) old out
      → (i : ℕ) → i + k ≤ g → (x : ℕ) × (get_or out i 0 ≡ 2 ^ x)

-- They hold of everything that a call may ask.
abbrev pub TheoremsMet : Type 0
TheoremsMet = (A : Asked) → Proper A → (k : ℕ) (table : List ℕ) (made : Made A k table) → Theorems A k table made

-- DEMAND 3, the whole of it, of what is asked of one plan.
pub record Demand (A : Asked) : Type 0 where
  -- the count: lent buffers being long enough, it is refused as unpredictable exactly when no k exists; otherwise k is answered
  pub counted : (a : Prepared) (old letters : List ℕ) → A.means.n * A.means.n ≤ length old → CountsTo A a old letters
      → Right A.means a
  pub prepared : (a : Prepared) (old table old' letters : List ℕ) → sets_from + A.means.n * A.means.m ≤ length old
      → A.means.n * A.means.n ≤ length old' → Prepares A a old table old' letters → Right A.means a
  -- with a loop as evidence, to which the separate check says yes
  pub evidence : (e : Evidence) (old letters : List ℕ) → EitherCall A (Err (Unpredictable e)) old letters
      → (r : Result Bool Refusal) → Checks A e letters r → r ≡ Ok true
  -- the count never exceeds n (n - 1) / 2, or n - 1 where there is only one code
  pub bound : (k : ℕ) → Lookahead A.means k → k ≤ A.means.n * (A.means.n - 1) / 2
  pub bound_one_letter : A.means.m ≡ 1 → (k : ℕ) → Lookahead A.means k → k ≤ A.means.n - 1
  -- the bookings: of every list of letters offered to a walk freshly opened, and not refused, on the plan so prepared
  pub walked_right : (k : ℕ) (table : List ℕ) → Made A k table → (offered : List ℕ) (first : Answer) (answers : List Answer)
      → Walk table k offered first answers → Taken first → Demand3 A.means k offered (map said (first ∷ answers))

-- It holds of every plan and every party that may be asked for (W-207): none of 1 to 7 and 16 applies. Of edition 1 that is party 0.
abbrev pub DemandMet : Type 0
DemandMet = (plan : List ℕ) (party : ℕ) → Passes (asked plan party) → Demand (asked plan party)
