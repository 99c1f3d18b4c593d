-- What a record comes to where neither 8 nor 9 applies: where it stands, the replies to opening and to a letter, and the sets of what is
-- not resolved.
-- Assumes nothing.
use Rattle.std.specs.Prelude.{ℕ, ◌+◌, ◌≤◌, cond, not, ◌&&◌, ◌≡◌, List, ◌∷◌, ◌++◌, map, eqb, ltb, length, drop}
use Rattle.bitset.specs.Sets.{size, least}
use Rattle.bitset.specs.Numbers.{has, set_of}
use Rattle.semiautomata.specs.Semiautomaton.{Semiautomaton}
use Rattle.semiautomata.specs.Walks.{reach}
use Rattle.semiautomata.specs.Sizes.{max_lookahead}
use Rattle.refusals.specs.Checks.{Check}
use Rattle.streaming.specs.Calls.{Reply, refused, resolved, nothing, Result, checked}
use Rattle.streaming.specs.Streaming.{Rec, base, rules, every, sound, take_checks, settled_by, finish}
use Rattle.records.specs.Bytes.{held_from, decode, tidy}

-- The states that the held letters lead to from the base; none where the record breaks its rules.
unfoldable pub standing : Semiautomaton → ℕ → List ℕ → ℕ
standing S k bytes =
    cond (tidy k bytes && every (rules S k (decode bytes))) (set_of S.n (reach S (base S k (decode bytes)) (decode bytes).held)) 0

-- A set's only state is resolved; any other set is refused with 14.
unfoldable pub resolving : ℕ → ℕ → Reply
resolving position set = cond (eqb (size 64 (has set)) 1) (resolved position (least 64 (has set))) (refused 14)

-- The reply to opening.
unfoldable pub opening : ℕ → ℕ → Reply
opening k starts = cond (eqb starts 0) (refused 13) (cond (ltb 0 k) nothing (resolving 0 starts))

-- 10: bytes that break the layout, or that hold a record that is not sound.
abbrev pub bytes_check : Semiautomaton → ℕ → List ℕ → Check
bytes_check S k bytes = record { number = 10; applies = not (tidy k bytes && sound S k (decode bytes)) }

-- The refusals of a letter from 10 on, in order.
abbrev pub decision_checks : Semiautomaton → ℕ → List ℕ → ℕ → List Check
decision_checks S k bytes a = bytes_check S k bytes ∷ take_checks S k (decode bytes) a

-- A letter fed: the reply, and the record that is left of the one that the bytes hold.
unfoldable pub decision : Semiautomaton → ℕ → List ℕ → ℕ → Result Rec
decision S k bytes a = checked (decision_checks S k bytes a) (decode bytes) (settled_by S k (decode bytes) a)

-- The sets that ending writes.
abbrev pub open_sets : Semiautomaton → ℕ → List ℕ → List ℕ
open_sets S k bytes = map (set_of S.n) (finish S k (decode bytes))

-- A record that can be ended into a buffer: k sets and k letters have room, and some state is reached.
abbrev pub Endable : Semiautomaton → ℕ → List ℕ → List ℕ → Type 0
Endable S k bytes out = (k ≤ max_lookahead) × (k ≤ length out) × (held_from + k ≤ length bytes) × ¬ (standing S k bytes ≡ 0)

-- Those sets at the front of a buffer that keeps its rest, and how many they are.
abbrev pub ListsOpen : Semiautomaton → ℕ → List ℕ → ℕ → List ℕ → List ℕ → Type 0
ListsOpen S k bytes count old out =
    (count ≡ length (open_sets S k bytes)) × (out ≡ open_sets S k bytes ++ drop (length (open_sets S k bytes)) old)
