-- What is proved of these definitions, a line of plain words to each theorem. proofs/Theorems.antt has the proof of them all.
-- Assumes nothing.
use Rattle.std.specs.Prelude.{ℕ, ◌+◌, ◌≤◌, Bool, true, false, ◌≡◌, ◌↔◌, List, [], length}
use Rattle.std.proofs.Math.Option.{some}
use Rattle.refusals.specs.Checks.{first_of}
use Rattle.semiautomata.specs.Semiautomaton.{Semiautomaton, Within, Accessible, Reached}
use Rattle.semiautomata.specs.Predictability.{Predictable, Lookahead}
use Rattle.semiautomata.specs.Walks.{OnPlan, Possible, Only}
use Rattle.semiautomata.specs.Theorems.{Below}
use Rattle.streaming.specs.Calls.{refused}
use Rattle.streaming.specs.PlainWalk.{state_at, plain, plain_taken}
use Rattle.streaming.specs.Demand3.{Only11to13, Demand3}
use Rattle.streaming.specs.Streaming.{Rec, base, sole_at, Undecided, open_checks, opened, feed_checks, feed, UndecidedBy}
use Rattle.streaming.specs.Streaming.{unresolved, finish, streamed, record_after}

pub record Theorems (S : Semiautomaton) : Type 0 where
  -- with k later letters there is exactly one possible state
  pub one_state : Within S → (k : ℕ) → Predictable S k → (w : List ℕ) (i : ℕ) → OnPlan S w → i + k ≤ length w → Only S w i (state_at S w i)
  -- THE STREAMING RULE, with a k for which S is k-predictable
  -- opening is refused exactly if there is no initial state
  pub opening_refused : (k : ℕ) → ((s : ℕ) → S.initial s ≡ false) → (opened S k).reply ≡ refused 13
  pub opening_taken : Within S → (k : ℕ) → Predictable S k → (s : ℕ) → S.initial s ≡ true → (r : ℕ) → ¬ ((opened S k).reply ≡ refused r)
  -- what is resolved is the one possible state: it is possible, and no other is
  pub sole_is : Within S → (X : ℕ → Bool) → Below S X → (w : List ℕ) (i x : ℕ)
      → (sole_at S X w i ≡ some x) ↔ (Possible S X w i x × ((y : ℕ) → Possible S X w i y → y ≡ x))
  -- with such a k, 14 is met on no record whose base some walk from an initial state reaches: the initial states, which are the base while
  -- fewer than k letters are taken, or an accessible state
  pub never_14 : Within S → (k : ℕ) → Predictable S k → (r : Rec) → Reached S (base S k r) → (a : ℕ)
      → ¬ ((feed S k r a).reply ≡ refused 14)
  pub base_reached : (k : ℕ) (r : Rec) → (k ≤ r.fed → Accessible S r.last) → Reached S (base S k r)
  -- with any k, the reply is 14 exactly if no earlier refusal applies, a position is due, and two or more states are possible there: of
  -- opening, and of a letter fed to any record
  pub opening_14 : Within S → (k : ℕ) → ((opened S k).reply ≡ refused 14) ↔ ((first_of (open_checks S) ≡ 0) × Undecided S k S.initial 0 [])
  pub feeding_14 : Within S → (k : ℕ) (r : Rec) (a : ℕ)
      → ((feed S k r a).reply ≡ refused 14) ↔ ((first_of (feed_checks S k r a) ≡ 0) × UndecidedBy S k r a)
  -- from a fresh opening on, it replies as the plain walk to every list of letters offered
  pub as_plain : Within S → (k : ℕ) → Predictable S k → (s : ℕ) → S.initial s ≡ true → (offered : List ℕ)
      → streamed S k offered ≡ plain S k offered
  -- so 10 and 14 are never met there
  pub plain_refusals : (k : ℕ) (offered : List ℕ) → Only11to13 (plain S k offered)
  pub fresh_refusals : Within S → (k : ℕ) → Predictable S k → (s : ℕ) → S.initial s ≡ true → (offered : List ℕ)
      → Only11to13 (streamed S k offered)
  -- the letters that the plain walk takes are on the plan
  pub plain_on_plan : (k s : ℕ) → S.initial s ≡ true → (offered : List ℕ) → OnPlan S (plain_taken S k offered)
  -- ending gives the possible states of the whole walk at the positions that are not resolved
  pub ending : Within S → (k : ℕ) → Predictable S k → (s : ℕ) → S.initial s ≡ true → (offered : List ℕ)
      → finish S k (record_after S k offered) ≡ unresolved S k S.initial (plain_taken S k offered)
  -- DEMAND 3
  pub demand3 : Within S → (k : ℕ) → Lookahead S k → (s : ℕ) → S.initial s ≡ true → (offered : List ℕ)
      → Demand3 S k offered (streamed S k offered)
