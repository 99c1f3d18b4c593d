-- What opening and a letter fed give, test by test; the head of their table is at hand.
-- Assumes nothing.
use Prim.Native.Nat.{ℕ, ◌+◌, ◌≤◌, ◌<◌}
use mathlib.Core.Bool.{Bool, true, false, cond}
use mathlib.Core.Path.{◌≡◌, refl, sym, ◌∙◌, ap}
use mathlib.Core.List.{List, [], ◌∷◌}
use lib.Dec.{ltb}
use lib.ListN.{length}
use borrow.Author.Tests.{lt-ltb, le-ltb}
use Rattle.semiautomata.specs.Means.{means}
use Rattle.refusals.specs.declared.Refusal.{Refusal}
use Rattle.refusals.specs.declared.Refusal.TheVariants as refusal
use Rattle.std.specs.Prelude.{Err}
use Rattle.streaming.specs.Calls.{refused, Result, checked}
use Rattle.refusals.specs.Checks.{Check}
use Rattle.streaming.specs.Streaming.{Rec, opened, open_checks, unopened, feed, feed_checks}
use Rattle.table.specs.declared.Head.{Head}
use Rattle.table.specs.Table.{lookahead_of, table_meaning, unfit}
use Rattle.table.specs.Heads.{Heads, Headed}
use Rattle.table.proofs.Heads.{head_means}
use Rattle.records.specs.Bytes.{held_from, decode, tidy}
use Rattle.deciding.specs.Replies.{Answer, said}
use Rattle.deciding.specs.Deciding.{opening, decision_checks, decision}
use Rattle.deciding.proofs.Judging.{opening_is}
use Rattle.predictor.specs.Calls.{onto, opened_on, fed_on, Opens, Feeds}
use Rattle.predictor.proofs.Leaving.{fed_into, judged_state, opened_into, opened_state}

-- refusals of a record leave its bytes
onto_checked : (k : ℕ) (bytes : List ℕ) (cs : List Check) (r : Rec) (done : Result Rec)
    → checked cs bytes (onto k bytes done) ≡ onto k bytes (checked cs r done)
onto_checked k bytes [] r done = refl
onto_checked k bytes (c ∷ cs) r done = go c.applies (onto_checked k bytes cs r done)
  where
    go : (b : Bool) → checked cs bytes (onto k bytes done) ≡ onto k bytes (checked cs r done)
        → cond b (record { reply = refused c.number; state = bytes }) (checked cs bytes (onto k bytes done))
        ≡ onto k bytes (cond b (record { reply = refused c.number; state = r }) (checked cs r done))
    go true ih = refl
    go false ih = ih

module _ (table bytes : List ℕ) where
  pub open_8 : {r : Refusal} → Heads table (Err r) → Opens table bytes (Err r) bytes
  unfolding opened_on
  open_8 (e, is) = rw (is, e) (refl, refl)

  pub feed_8 : (a : ℕ) {r : Refusal} → Heads table (Err r) → Feeds table bytes a (Err r) bytes
  unfolding fed_on
  feed_8 a (e, is) = rw (is, e) (refl, refl)

  -- what is settled in bytes is what is settled in a record
  module _ (f : unfit table ≡ false) (room : held_from + lookahead_of table ≤ length bytes) where
    pub opened_on_lem : opened_on table bytes ≡ onto (lookahead_of table) bytes (opened (table_meaning table) (lookahead_of table))
    unfolding opened_on opened
    opened_on_lem = rw (f, le-ltb (length bytes) (held_from + lookahead_of table) room)
        (onto_checked _ bytes (open_checks (table_meaning table)) unopened _)

    pub judged_on : (a : ℕ) → let k = lookahead_of table in fed_on table bytes a ≡ onto k bytes (decision (table_meaning table) k bytes a)
    unfolding fed_on decision
    judged_on a = rw (f, le-ltb (length bytes) (held_from + lookahead_of table) room)
        (onto_checked _ bytes (decision_checks (table_meaning table) (lookahead_of table) bytes a) (decode bytes) _)

    pub fed_on_lem : (a : ℕ) → tidy (lookahead_of table) bytes ≡ true
        → fed_on table bytes a ≡ onto (lookahead_of table) bytes (feed (table_meaning table) (lookahead_of table) (decode bytes) a)
    unfolding fed_on feed
    fed_on_lem a t =
        rw (f, le-ltb (length bytes) (held_from + lookahead_of table) room, t)
        (onto_checked _ bytes (feed_checks (table_meaning table) (lookahead_of table) (decode bytes) a) (decode bytes) _)

  module _ {head : Head} (h : Headed table head) where
    short : length bytes < held_from + head.k → ltb (length bytes) (held_from + lookahead_of table) ≡ true
    short e = lt-ltb (length bytes) (held_from + lookahead_of table) (rw h.k_is at e)

    pub open_9 : length bytes < held_from + head.k → Opens table bytes (Err refusal.Room) bytes
    unfolding opened_on
    open_9 e = rw (h.sound, short e) (refl, refl)

    pub feed_9 : (a : ℕ) → length bytes < held_from + head.k → Feeds table bytes a (Err refusal.Room) bytes
    unfolding fed_on
    feed_9 a e = rw (h.sound, short e) (refl, refl)

    module _ (room : held_from + head.k ≤ length bytes) (answer : Answer) {left : List ℕ} where
      pub open_on : said answer ≡ opening head.k head.succ.starts → left ≡ opened_into head.k bytes (said answer)
          → Opens table bytes answer left
      open_on e d =
          let S = table_meaning table in
          let k = lookahead_of table in
          let on = opened_on_lem h.sound (rw h.k_is at room) in
          let reply : said answer ≡ (opened S k).reply = rw (head_means h, h.k_is) at (e ∙ opening_is head.succ head.k) in
          let into : left ≡ opened_into k bytes (said answer) = rw h.k_is at d in
          rw on (reply, into ∙ ap (opened_into k bytes) reply ∙ sym (opened_state S k bytes))

      pub feed_on : (a : ℕ) → said answer ≡ (decision (means head.succ) head.k bytes a).reply
          → left ≡ fed_into head.k bytes a (said answer) → Feeds table bytes a answer left
      feed_on a e d =
          let S = table_meaning table in
          let k = lookahead_of table in
          let on = judged_on h.sound (rw h.k_is at room) a in
          let reply : said answer ≡ (decision S k bytes a).reply = rw (head_means h, h.k_is) at e in
          let into : left ≡ fed_into k bytes a (said answer) = rw h.k_is at d in
          rw on (reply, into ∙ ap (fed_into k bytes a) reply ∙ sym (judged_state S k bytes a))

    -- a refusal keeps the bytes
    module _ (room : held_from + head.k ≤ length bytes) {answer : Answer} {r : Refusal} (is : answer ≡ Err r) where
      pub open_kept : said answer ≡ opening head.k head.succ.starts → Opens table bytes (Err r) bytes
      open_kept e = open_on room (Err r) (rw is at e) refl

      pub feed_kept : (a : ℕ) → said answer ≡ (decision (means head.succ) head.k bytes a).reply → Feeds table bytes a (Err r) bytes
      feed_kept a e = feed_on room (Err r) a (rw is at e) refl
