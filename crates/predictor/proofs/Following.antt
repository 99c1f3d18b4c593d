-- Record bytes follow the abstract record: a call on bytes that hold a record replies as the rule without bytes, and leaves bytes that hold
-- the record that the rule leaves.
-- Assumes nothing.
use Prim.Native.Nat.{ℕ, ◌+◌, ◌^◌, ◌≤◌, ◌<◌}
use mathlib.Core.Bool.{true, false}
use mathlib.Core.Path.{◌≡◌, refl, ◌∙◌, ap}
use mathlib.Core.List.{List, [], ◌∷◌, ◌++◌}
use native.Mathlib.Omega.{arith}
use lib.ListN.{length, drop, length-append, length-drop}
use Rattle.semiautomata.specs.Semiautomaton.{Semiautomaton, Within}
use Rattle.semiautomata.specs.Predictability.{Predictable}
use Rattle.streaming.specs.Calls.{Reply, refused, resolved, nothing, Result}
use Rattle.streaming.specs.PlainWalk.{limit}
use Rattle.streaming.specs.Streaming.{Rec, settled, opened, feed, feed_checks, base}
use Rattle.streaming.proofs.Calls.{Course, refuses, passes, course}
use Rattle.streaming.proofs.Streaming.{Follows}
use Rattle.table.specs.Table.{lookahead_of, table_meaning, unfit}
use Rattle.records.specs.Bytes.{held_from, decode, tidy, encode}
use Rattle.predictor.specs.Calls.{written, onto, opened_on, fed_on}
use Rattle.predictor.proofs.Tables.{opened_on_lem, fed_on_lem}
use Rattle.records.proofs.Bytes.{decode_encode, tidy_encode, length_encode}

-- the bytes hold the record r for k
pub record Holds (k : ℕ) (bytes : List ℕ) (r : Rec) : Type 0 where
  pub room : held_from + k ≤ length bytes
  pub tidied : tidy k bytes ≡ true
  pub is : decode bytes ≡ r

-- a record that the bytes have room for
pub record Small (k : ℕ) (r : Rec) : Type 0 where
  pub fed_lt : r.fed < 2 ^ 32
  pub held_le : length r.held ≤ k
  pub few : k < 2 ^ 16

pub encode_holds : (k : ℕ) (r : Rec) (bytes : List ℕ) → held_from + k ≤ length bytes → Small k r
    → Holds k (encode k r ++ drop (held_from + k) bytes) r
encode_holds k r bytes h s =
    let few : length r.held < 2 ^ 16 = omega (arith, s.held_le, s.few) in
    record {
      room = rw (length-append, length_encode k r s.held_le) (omega arith);
      tidied = tidy_encode k r (drop (held_from + k) bytes) few s.held_le;
      is = decode_encode k r (drop (held_from + k) bytes) few s.fed_lt;
    }

-- what is written of a reply holds the record that is left, where a refusal leaves the record as it was
pub written_holds : (k : ℕ) (bytes : List ℕ) (r next : Rec) (reply : Reply) → Holds k bytes r → Small k next
    → ((x : ℕ) → reply ≡ refused x → next ≡ r) → Holds k (written k bytes next reply) next
written_holds k bytes r next (refused x) h s keeps = rw (keeps x refl) h
written_holds k bytes r next (resolved i x) h s keeps = encode_holds k next bytes h.room s
written_holds k bytes r next nothing h s keeps = encode_holds k next bytes h.room s

-- a refused letter leaves the record
pub feed_keeps : (S : Semiautomaton) (k : ℕ) (r : Rec) (a x : ℕ) → (feed S k r a).reply ≡ refused x → (feed S k r a).state ≡ r
unfolding feed
feed_keeps S k r a x = go (feed S k r a) (course (feed_checks S k r a) r done)
  where
    done : Result Rec
    done = settled S k (base S k r) r (Prim.Native.Nat.suc r.fed) (r.held ++ (a ∷ []))

    go : (s : Result Rec) → Course (feed_checks S k r a) r done s → s.reply ≡ refused x → s.state ≡ r
    go s (refuses number _) e = refl
    go s (passes _) e = rw e

module _ (table : List ℕ) (fit : unfit table ≡ false) where
  abbrev S : Semiautomaton
  S = table_meaning table

  abbrev k : ℕ
  k = lookahead_of table

  -- where neither 8 nor 9 applies, and the bytes hold a record
  pub opened_is : (bytes : List ℕ) → held_from + k ≤ length bytes → opened_on table bytes ≡ onto k bytes (opened S k)
  opened_is bytes h = opened_on_lem table bytes fit h

  pub fed_is : (bytes : List ℕ) (r : Rec) (a : ℕ) → Holds k bytes r → fed_on table bytes a ≡ onto k bytes (feed S k r a)
  fed_is bytes r a h = fed_on_lem table bytes fit h.room a h.tidied ∙ ap (λ (r : Rec). onto k bytes (feed S k r a)) h.is

  module _ (W : Within S) (P : Predictable S k) (few : k < 2 ^ 16) where
    pub follows_small : (r : Rec) (w : List ℕ) → Follows S W k P r w → Small k r
    unfolding limit
    follows_small r w f = record {
      fed_lt = omega (arith, f.fed_are, f.room);
      held_le = rw (f.held_are, length-drop) (omega arith);
      few = few;
    }
