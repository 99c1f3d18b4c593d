-- A walk over a table and record bytes prints what the plain walk prints.
-- Assumes nothing.
use Prim.Native.Nat.{ℕ, ◌+◌, ◌^◌, ◌≤◌, ◌<◌}
use mathlib.Core.Bool.{true, false, ◌||◌, true≢false}
use mathlib.Core.Path.{◌≡◌, refl, sym, ◌∙◌, ap}
use mathlib.Core.Logic.{◌⊎◌, inl, inr}
use mathlib.Core.List.{List, [], ◌∷◌, ◌++◌, map}
use native.Mathlib.Omega.{arith}
use Rattle.std.specs.Prelude.{Option, None, Some, Ok}
use lib.Dec.{ltb}
use lib.ListN.{length}
use borrow.Author.Tests.{le-ltb}
use Rattle.bitset.specs.Sets.{any}
use Rattle.bitset.specs.Numbers.{set_of}
use Rattle.bitset.proofs.Below.{any_out, any_not}
use Rattle.bitset.proofs.Tests.{decided, not_so}
use Rattle.semiautomata.specs.Semiautomaton.{Semiautomaton, Within}
use Rattle.semiautomata.specs.Predictability.{Lookahead}
use Rattle.streaming.specs.Calls.{Reply, refused, resolved, nothing, Result, final}
use Rattle.streaming.specs.PlainWalk.{plain_reply, plain_feed, plain_taken}
use Rattle.streaming.specs.Streaming.{Rec, sound, opened, feed, finish, unresolved, record_after}
use Rattle.streaming.proofs.Calls.{Agree}
use Rattle.streaming.proofs.Streaming.{Follows, feed_agrees, follows_sound, record_follows, opened_agrees, opened_some, opened_none}
use Rattle.streaming.proofs.Demand3.{finish_whole}
use Rattle.table.specs.Table.{lookahead_of, table_meaning, unfit}
use Rattle.table.proofs.Fitness.{fitting, lookahead_le}
use Rattle.records.specs.Bytes.{held_from, decode}
use Rattle.predictor.specs.Calls.{written, opened_on, fed_on, ended}
use Rattle.deciding.specs.declared.Resolution.{Resolution}
use Rattle.deciding.specs.Replies.{said, is_refusal}
use Rattle.predictor.proofs.Ending.{end_0}
use Rattle.predictor.proofs.Following.{Holds, Small, encode_holds, written_holds, feed_keeps, opened_is, fed_is, follows_small}
use Rattle.text.specs.Report.{reply_text, walk_text, plain_open, plain_text, AfterLookahead, no_start, walked}
use Rattle.text.specs.Calls.{most_sets, record_size, open_on, walk_on}

-- two walks whose calls agree print the same
module _ {A B : Type 0} (R : A → B → Type 0) (f : A → ℕ → Result A) (g : B → ℕ → Result B) (ends : A → List ℕ) (ends' : B → List ℕ)
    (agree : (a : A) (b : B) (c : ℕ) → R a b → Agree R (f a c) (g b c)) (same : (a : A) (b : B) → R a b → ends a ≡ ends' b) where
  walk_agrees : (letters : List ℕ) (a : A) (b : B) → R a b → walk_text f ends a letters ≡ walk_text g ends' b letters
  unfolding walk_text
  walk_agrees [] a b r = same a b r
  walk_agrees (c ∷ letters) a b r =
      let s = agree a b c r in
      rw (s.reply, same (f a c).state (g b c).state s.state, walk_agrees letters (f a c).state (g b c).state s.state)

final_snoc : {A : Type 0} (f : A → ℕ → Result A) (s : A) (l : List ℕ) (a : ℕ) → final f s (l ++ (a ∷ [])) ≡ (f (final f s l) a).state
final_snoc f s [] a = refl
final_snoc f s (x ∷ l) a = final_snoc f (f s x).state l a

module _ (table : List ℕ) (fit : unfit table ≡ false) (L : Lookahead (table_meaning table) (lookahead_of table)) where
  abbrev S : Semiautomaton
  S = table_meaning table

  abbrev k : ℕ
  k = lookahead_of table

  W : Within S
  W = (fitting table fit).within

  small_k : k ≤ most_sets
  small_k = lookahead_le (fitting table fit)

  few : k < 2 ^ 16
  few = omega (arith, small_k)

  module _ (s : ℕ) (e : S.initial s ≡ true) where
    -- the bytes hold the record of the letters offered so far, of which the plain walk took w
    record Same (bytes w : List ℕ) : Type 0 where
      pub offered : List ℕ
      pub holds : Holds k bytes (record_after S k offered)
      pub taken : w ≡ plain_taken S k offered

    follows : (offered : List ℕ) → Follows S W k L.enough (record_after S k offered) (plain_taken S k offered)
    follows offered = record_follows S W k L.enough s e offered

    same_feeds : (bytes w : List ℕ) (a : ℕ) → Same bytes w → Agree Same (fed_on table bytes a) (plain_feed S k w a)
    same_feeds bytes w a h =
        let o = h.offered in
        let r = record_after S k o in
        let t = feed S k r a in
        let is = fed_is table fit bytes r a h.holds in
        let agree = feed_agrees S W k L.enough r (plain_taken S k o) a (follows o) in
        let small = follows_small table fit W L.enough few t.state (plain_feed S k (plain_taken S k o) a).state agree.state in
        rw (is, h.taken) (record {
          reply = agree.reply;
          state = record {
            offered = o ++ (a ∷ []);
            holds = rw (final_snoc (feed S k) (opened S k).state o a)
                (written_holds k bytes r t.state t.reply h.holds small (feed_keeps S k r a));
            taken = sym (final_snoc (plain_feed S k) [] o a);
          };
        })

    same_ends : (bytes w : List ℕ) → Same bytes w → open_on table bytes ≡ plain_open S k w
    unfolding open_on
    same_ends bytes w h =
        let o = h.offered in
        let f = follows o in
        let room : (ltb (length bytes) (held_from + k) || ltb most_sets k) ≡ false =
        rw (le-ltb (length bytes) (held_from + k) h.holds.room, le-ltb most_sets k small_k) in
        let stands : sound S k (decode bytes) ≡ true =
        rw h.holds.is (follows_sound S W k L.enough (record_after S k o) (plain_taken S k o) f) in
        let zero = end_0 table bytes most_sets (fitting table fit) room h.holds.tidied stands in
        let fed : (decode bytes).fed ≡ length (plain_taken S k o) = ap (λ (r : Rec). r.fed) h.holds.is ∙ f.fed_are in
        let sets : ended table bytes ≡ map (set_of S.n) (unresolved S k S.initial (plain_taken S k o)) =
        ap (λ (r : Rec). map (set_of S.n) (finish S k r)) h.holds.is
        ∙ ap (map (set_of S.n)) (finish_whole S W k L.enough s e o) in
        rw (zero, sets, fed, h.taken)

    module _ (bytes : List ℕ) (room : record_size ≤ length bytes) where
      opened_on_lem : (opened_on table bytes).state ≡ written k bytes (opened S k).state (opened S k).reply
      opened_on_lem = ap (λ (x : Result (List ℕ)). x.state) (opened_is table fit bytes (omega (arith, small_k)))

      same_opened : Same (opened_on table bytes).state []
      same_opened = record { offered = []; holds = rw opened_on_lem (go (opened S k).reply refl); taken = refl }
        where
          small : Small k (opened S k).state
          small = follows_small table fit W L.enough few (opened S k).state [] (follows [])

          go : (reply : Reply) → (opened S k).reply ≡ reply → Holds k (written k bytes (opened S k).state reply) (opened S k).state
          go (refused r) q = absurd (opened_some S W k L.enough s e r q)
          go (resolved i x) q = encode_holds k (opened S k).state bytes (omega (arith, small_k)) small
          go nothing q = encode_holds k (opened S k).state bytes (omega (arith, small_k)) small

      opened_reply : (opened_on table bytes).reply ≡ plain_reply S k []
      opened_reply = ap (λ (x : Result (List ℕ)). x.reply) (opened_is table fit bytes (omega (arith, small_k)))
          ∙ (opened_agrees S W k L.enough s e).reply

      -- the whole text of a walk
      opened_text : (letters : List ℕ)
          → reply_text (opened_on table bytes).reply ++ walk_on table (opened_on table bytes).state letters ≡ plain_text S k letters
      unfolding plain_text
      opened_text letters =
          rw (
            opened_reply,
            walk_agrees Same (fed_on table) (plain_feed S k) (open_on table) (plain_open S k) same_feeds same_ends letters
                (opened_on table bytes).state [] same_opened,
          )

  -- some state is initial, or none is
  some_start : ((s : ℕ) × (S.initial s ≡ true)) ⊎ ((s : ℕ) → S.initial s ≡ false)
  some_start = go (decided (any S.n S.initial))
    where
      go : (any S.n S.initial ≡ true) ⊎ (any S.n S.initial ≡ false)
          → ((s : ℕ) × (S.initial s ≡ true)) ⊎ ((s : ℕ) → S.initial s ≡ false)
      go (inl e) = let (s, _, i) = any_out S.n S.initial e in inl (s, i)
      go (inr e) = inr (λ s. not_so (S.initial s) (λ i. true≢false (sym i ∙ any_not S.n S.initial e s (W.initial_lt s i))))

  -- what opening prints
  module _ (bytes : List ℕ) (room : record_size ≤ length bytes) {reply : Reply} (said : reply ≡ (opened_on table bytes).reply) {left : List ℕ}
      (state : left ≡ (opened_on table bytes).state) where
    none_refused : ((s : ℕ) → S.initial s ≡ false) → reply ≡ refused 13
    none_refused none = said ∙ ap (λ (x : Result (List ℕ)). x.reply) (opened_is table fit bytes (omega (arith, small_k)))
        ∙ opened_none S k none

    some_taken : (s : ℕ) → S.initial s ≡ true → ¬ (is_refusal reply ≡ true)
    some_taken s e h = go reply h said
      where
        go : (q : Reply) → is_refusal q ≡ true → q ≡ (opened_on table bytes).reply → ⊥
        go (refused x) h d = opened_some S W k L.enough s e x
            (sym (ap (λ (x : Result (List ℕ)). x.reply) (opened_is table fit bytes (omega (arith, small_k)))) ∙ sym d)
        go (resolved i x) h d = true≢false (sym h)
        go nothing h d = true≢false (sym h)

    pub opened_goes : is_refusal reply ≡ false → (letters : List ℕ) → AfterLookahead S k letters (reply_text reply ++ walk_on table left letters)
    opened_goes e letters = elim some_start [
      | inl h ↦ rw (said, state, opened_text h.0 h.1 bytes room letters) (walked h.0 h.1)
      | inr none ↦ absurd (true≢false (sym (ap is_refusal (none_refused none)) ∙ e))
    ]

    pub opened_ends : is_refusal reply ≡ true → (letters : List ℕ) → AfterLookahead S k letters (reply_text reply)
    opened_ends e letters = elim some_start [
      | inl h ↦ absurd (some_taken h.0 h.1 e)
      | inr none ↦ rw (none_refused none) (no_start none)
    ]

-- what is taken is not refused
pub taken_goes : (x : Option Resolution) → is_refusal (said (Ok x)) ≡ false
taken_goes (Some x) = refl
taken_goes None = refl
