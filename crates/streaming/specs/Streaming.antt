-- The record of document 01 and what opening, a letter fed and ending do with it, before it is laid out in bytes.
-- Assumes nothing.
use Rattle.std.specs.Prelude.{ℕ, suc, ◌-◌, ◌≤◌, min, Bool, true, not, cond, ◌&&◌, List, [], ◌∷◌, ◌++◌, eqb, ltb, leb, length, drop}
use Rattle.std.proofs.Math.Option.{Option, some, none}
use Rattle.bitset.specs.Sets.{any, size, least, single}
use Rattle.semiautomata.specs.Semiautomaton.{Semiautomaton}
use Rattle.semiautomata.specs.Walks.{TwoPossible, walkable, possible}
use Rattle.streaming.specs.Calls.{Reply, refused, resolved, nothing, Result, checked, replies, final}
use Rattle.refusals.specs.Checks.{Check}
use Rattle.streaming.specs.PlainWalk.{limit}
use Rattle.streaming.specs.Demand3.{followed}
use Rattle.semiautomata.specs.Lists.{range, collect}

-- How many letters are taken (legs), the last resolved state (255 before the first), and the latest k letters taken, or all if there are
-- fewer, oldest first.
pub record Rec : Type 0 where
  pub fed : ℕ
  pub last : ℕ
  pub held : List ℕ

-- The base: the initial states while fewer than k letters are taken, else the last resolved state.
unfoldable pub base : Semiautomaton → ℕ → Rec → ℕ → Bool
base S k r = cond (ltb r.fed k) S.initial (single r.last)

-- The rules of a record: at most so many letters taken; as many held as the smaller of their number and k; 255 before the first
-- resolution, then a state.
abbrev pub rules : Semiautomaton → ℕ → Rec → List Bool
rules S k r =
    leb r.fed limit
    ∷ eqb (length r.held) (min r.fed k)
    ∷ cond (ltb r.fed k) (eqb r.last 255) (ltb r.last S.n)
    ∷ []

-- every test of a list passes
abbrev pub every : List Bool → Bool
every [] = true
every (b ∷ bs) = b && every bs

-- A record that keeps the rules and whose base can walk the held letters; any other is refused with 10.
unfoldable pub sound : Semiautomaton → ℕ → Rec → Bool
sound S k r = every (rules S k r) && walkable S (base S k r) r.held

abbrev pub sound_check : Semiautomaton → ℕ → Rec → Check
sound_check S k r = record { number = 10; applies = not (sound S k r) }

-- The latest k letters of w.
abbrev pub latest : ℕ → List ℕ → List ℕ
latest k w = drop (length w - k) w

-- The one possible state at position i of w walked from X, if there is exactly one.
unfoldable pub sole_at : Semiautomaton → (ℕ → Bool) → List ℕ → ℕ → Option ℕ
sole_at S X w i = cond (eqb (size S.n (possible S X w i)) 1) (some (least S.n (possible S X w i))) none

-- Position i is resolved with that state; 14 if there is not exactly one. (After 13 there is one at least.)
abbrev pub resolve : ℕ → Option ℕ → Reply
resolve i (some x) = resolved i x
resolve i none = refused 14

-- What is resolved once `fed` letters are taken, of which the latest are w, walked from X: nothing before k are taken, then position
-- fed - k, which k letters of w follow.
unfoldable pub settle : Semiautomaton → ℕ → (ℕ → Bool) → ℕ → List ℕ → Reply
settle S k X fed w = cond (ltb fed k) nothing (resolve (fed - k) (sole_at S X w (length w - k)))

-- A position is due then, and two or more states are possible there: the sentence of refusal 14.
pub record Undecided (S : Semiautomaton) (k : ℕ) (X : ℕ → Bool) (fed : ℕ) (w : List ℕ) : Type 0 where
  pub due : k ≤ fed
  pub two : TwoPossible S X w (length w - k)

-- The record that a reply leaves of `old`: a refusal leaves it as it is.
abbrev pub after : ℕ → Rec → ℕ → List ℕ → Reply → Rec
after k old fed w (refused number) = old
after k old fed w (resolved i x) = record { fed = fed; last = x; held = latest k w }
after k old fed w nothing = record { fed = fed; last = old.last; held = latest k w }

abbrev pub settled : Semiautomaton → ℕ → (ℕ → Bool) → Rec → ℕ → List ℕ → Result Rec
settled S k X old fed w = record { reply = settle S k X fed w; state = after k old fed w (settle S k X fed w) }

-- Opening: 13 without an initial state.
abbrev pub unopened : Rec
unopened = record { fed = 0; last = 255; held = [] }

abbrev pub open_checks : Semiautomaton → List Check
open_checks S = record { number = 13; applies = not (any S.n S.initial) } ∷ []

unfoldable pub opened : Semiautomaton → ℕ → Result Rec
opened S k = checked (open_checks S) unopened (settled S k S.initial unopened 0 [])

-- A letter fed: it is read behind the held letters before anything is resolved. Its refusals on a sound record, and on any.
abbrev pub take_checks : Semiautomaton → ℕ → Rec → ℕ → List Check
take_checks S k r a =
    record { number = 11; applies = leb limit r.fed }
    ∷ record { number = 12; applies = leb S.m a }
    ∷ record { number = 13; applies = not (walkable S (base S k r) (r.held ++ (a ∷ []))) }
    ∷ []

abbrev pub feed_checks : Semiautomaton → ℕ → Rec → ℕ → List Check
feed_checks S k r a = sound_check S k r ∷ take_checks S k r a

abbrev pub settled_by : Semiautomaton → ℕ → Rec → ℕ → Result Rec
settled_by S k r a = settled S k (base S k r) r (suc r.fed) (r.held ++ (a ∷ []))

unfoldable pub feed : Semiautomaton → ℕ → Rec → ℕ → Result Rec
feed S k r a = checked (feed_checks S k r a) r (settled_by S k r a)

-- 14 of a letter: it is read, and then the position that is due is undecided.
abbrev pub UndecidedBy : Semiautomaton → ℕ → Rec → ℕ → Type 0
UndecidedBy S k r a = Undecided S k (base S k r) (suc r.fed) (r.held ++ (a ∷ []))

-- The possible states, lowest position first, of the positions of w, walked from X, that are not followed by k or more letters.
unfoldable pub unresolved : Semiautomaton → ℕ → (ℕ → Bool) → List ℕ → List (ℕ → Bool)
unresolved S k X w = collect (λ i. not (followed k w i)) (possible S X w) (range 0 (suc (length w)))

-- Ending, where 10 does not apply.
abbrev pub finish : Semiautomaton → ℕ → Rec → List (ℕ → Bool)
finish S k r = unresolved S k (base S k r) r.held

-- The replies to opening and to the letters offered, and the record after them, where opening is not refused.
abbrev pub streamed : Semiautomaton → ℕ → List ℕ → List Reply
streamed S k offered = (opened S k).reply ∷ replies (feed S k) (opened S k).state offered

abbrev pub record_after : Semiautomaton → ℕ → List ℕ → Rec
record_after S k offered = final (feed S k) (opened S k).state offered
