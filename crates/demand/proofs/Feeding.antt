-- A list of calls on record bytes replies as the rule without bytes does.
-- Assumes nothing.
use Prim.Native.Nat.{ℕ, ◌^◌, ◌<◌}
use mathlib.Core.Bool.{false}
use mathlib.Core.Path.{◌≡◌, refl, ◌∙◌, ap}
use mathlib.Core.List.{List, map}
use Rattle.semiautomata.specs.Semiautomaton.{Semiautomaton, Within}
use Rattle.semiautomata.specs.Predictability.{Predictable}
use Rattle.streaming.specs.Calls.{Result, replies}
use Rattle.streaming.specs.PlainWalk.{plain_feed}
use Rattle.streaming.specs.Streaming.{Rec, feed}
use Rattle.streaming.proofs.Streaming.{Follows, feed_agrees}
use Rattle.table.specs.Table.{lookahead_of, table_meaning, unfit}
use Rattle.deciding.specs.Replies.{Answer, said}
use Rattle.predictor.specs.Calls.{written}
use Rattle.predictor.proofs.Following.{Holds, written_holds, feed_keeps, fed_is, follows_small}
use Rattle.demand.specs.Demand.{Feeding, none, more}

module _ (table : List ℕ) (fit : unfit table ≡ false) where
  abbrev S : Semiautomaton
  S = table_meaning table

  abbrev k : ℕ
  k = lookahead_of table

  module _ (W : Within S) (P : Predictable S k) (few : k < 2 ^ 16) where
    pub feeding_replies : {bytes offered : List ℕ} {answers : List Answer} → Feeding table bytes offered answers
        → (r : Rec) (w : List ℕ) → Holds k bytes r → Follows S W k P r w → map said answers ≡ replies (feed S k) r offered
    feeding_replies none r w h f = refl
    feeding_replies (more {bytes} {left} {letter} {answer} {letters} {answers} c rest) r w h f =
        let is = fed_is table fit bytes r letter h in
        let t = feed S k r letter in
        let agree = feed_agrees S W k P r w letter f in
        let reply : said answer ≡ t.reply = c.0 ∙ ap (λ (x : Result (List ℕ)). x.reply) is in
        let state : left ≡ written k bytes t.state t.reply = c.1 ∙ ap (λ (x : Result (List ℕ)). x.state) is in
        let small = follows_small table fit W P few t.state (plain_feed S k w letter).state agree.state in
        let next : Holds k left t.state = rw state (written_holds k bytes r t.state t.reply h small (feed_keeps S k r letter)) in
        rw (reply, feeding_replies rest t.state (plain_feed S k w letter).state next agree.state)
