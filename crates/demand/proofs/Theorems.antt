-- The theorems of specs/Demand.antt.
-- Assumes nothing.
use Prim.Native.Nat.{ℕ, ◌+◌, ◌^◌, ◌≤◌, ◌<◌}
use mathlib.Core.Bool.{true, false, not, false≢true}
use mathlib.Core.Path.{◌≡◌, refl, sym, ◌∙◌, ap, subst}
use mathlib.Core.Logic.{inl, inr}
use mathlib.Core.List.{List, [], ◌∷◌, map}
use native.Mathlib.Omega.{arith}
use lib.ListN.{length}
use borrow.Author.Tests.{not-false}
use Rattle.bitset.specs.Sets.{any}
use Rattle.bitset.proofs.Tests.{and_out, decided, not_so}
use Rattle.bitset.proofs.Below.{any_in, with_any}
use Rattle.semiautomata.specs.Semiautomaton.{Semiautomaton, Within, Reached}
use Rattle.semiautomata.specs.Predictability.{Predictable, Lookahead}
use Rattle.streaming.specs.Calls.{Reply, refused, resolved, nothing, Result}
use Rattle.streaming.specs.Demand3.{Demand3}
use Rattle.streaming.specs.Streaming.{Rec, base, opened, feed, feed_checks, settled_by, streamed}
use Rattle.streaming.proofs.Calls.{passed_done, behind}
use Rattle.refusals.proofs.First.{first_passed}
use Rattle.streaming.proofs.Streaming.{opened_none, opened_some, opened_agrees, never_14}
use Rattle.streaming.proofs.Demand3 as over_meaning
use Rattle.semiautomata.proofs.Bound.{lookahead_bound, lookahead_bound_one}
use Rattle.plan.specs.Asked.{Asked, Proper}
use Rattle.plan.specs.Bytes.{meaning, asked}
use Rattle.plan.proofs.Refusals.{asked_proper}
use Rattle.prepare.proofs.Theorems.{table_read, theorems as preparing-theorems}
use Rattle.table.specs.Table.{lookahead_of, table_meaning, unfit, contents}
use Rattle.table.proofs.Fitness.{fitting, lookahead_le}
use Rattle.table.proofs.Form.{Reads}
use Rattle.records.specs.Bytes.{held_from, decode, tidy}
use Rattle.deciding.specs.Replies.{Answer, said}
use Rattle.predictor.specs.Calls.{letter_checks, written, opened_on, fed_on, Opens}
use Rattle.demand.specs.Demand.{Made, Walk, Taken, Theorems, TheoremsMet, DemandMet}
use Rattle.predictor.proofs.Following.{Holds, Small, encode_holds, follows_small, opened_is}
use Rattle.demand.proofs.Feeding.{feeding_replies}
use Rattle.demand.proofs.Waiting.{two_shown, one_shown}

-- a table that fits has a look-ahead that two bytes can count
few : (table : List ℕ) → unfit table ≡ false → lookahead_of table < 2 ^ 16
few table fit = omega (arith, lookahead_le (fitting table fit))

-- OVER THE TABLE ALONE
module _ (table : List ℕ) (fit : unfit table ≡ false) (P : Predictable (table_meaning table) (lookahead_of table)) where
  W : Within (table_meaning table)
  W = (fitting table fit).within

  on_never_14 : (bytes : List ℕ) (a : ℕ) → Reached (table_meaning table) (base (table_meaning table) (lookahead_of table) (decode bytes))
      → ¬ ((fed_on table bytes a).reply ≡ refused 14)
  unfolding fed_on feed
  on_never_14 bytes a access e =
      let S = table_meaning table in
      let k = lookahead_of table in
      let r = decode bytes in
      let cs = letter_checks table bytes a in
      let (z, d) = (behind 14 13 cs refl refl bytes _).0 e in
      let (_, (_, (b, p))) = first_passed 13 cs refl z in
      let on = passed_done (feed_checks S k r a) r (settled_by S k r a) (ap not (and_out (tidy k bytes) _ (not-false _ b)).1, p) in
      never_14 S W k P r access a (ap (λ (x : Result Rec). x.reply) on ∙ d)

  module _ (s : ℕ) (e : (table_meaning table).initial s ≡ true) where
    -- opening leaves bytes that hold the record of no letters
    opened_holds : (bytes : List ℕ) → held_from + lookahead_of table ≤ length bytes
        → Holds (lookahead_of table) (opened_on table bytes).state (opened (table_meaning table) (lookahead_of table)).state
    opened_holds bytes h = rw (opened_is table fit bytes h) (go (opened S k).reply refl)
      where
        S : Semiautomaton
        S = table_meaning table

        k : ℕ
        k = lookahead_of table

        small : Small k (opened S k).state
        small = follows_small table fit W P (few table fit) (opened S k).state [] (opened_agrees S W k P s e).state

        go : (reply : Reply) → (opened S k).reply ≡ reply → Holds k (written k bytes (opened S k).state reply) (opened S k).state
        go (refused r) q = absurd (opened_some S W k P s e r q)
        go (resolved i x) q = encode_holds k (opened S k).state bytes h small
        go nothing q = encode_holds k (opened S k).state bytes h small

    walk_streamed : (offered : List ℕ) (first : Answer) (answers : List Answer) → Walk table (lookahead_of table) offered first answers
        → map said (first ∷ answers) ≡ streamed (table_meaning table) (lookahead_of table) offered
    walk_streamed offered first answers w =
        let S = table_meaning table in
        let k = lookahead_of table in
        let h = w.room in
        let reply : said first ≡ (opened S k).reply = w.opening.0
        ∙ ap (λ (x : Result (List ℕ)). x.reply) (opened_is table fit w.bytes h) in
        let holds : Holds k w.left (opened S k).state = rw w.opening.1 (opened_holds w.bytes h) in
        rw (
          reply,
          feeding_replies table fit W P (few table fit) w.feeding (opened S k).state [] holds
              (opened_agrees S W k P s e).state,
        )

    on_demand3 : Lookahead (table_meaning table) (lookahead_of table) → (offered : List ℕ) (first : Answer) (answers : List Answer)
        → Walk table (lookahead_of table) offered first answers
        → Demand3 (table_meaning table) (lookahead_of table) offered (map said (first ∷ answers))
    on_demand3 l offered first answers w =
        rw (walk_streamed offered first answers w) (over_meaning.demand3 (table_meaning table) W (lookahead_of table) P s e offered)

-- OF THE PLAN THAT THE TABLE WAS MADE FROM
module _ (A : Asked) (P : Proper A) (k : ℕ) (table : List ℕ) (made : Made A k table) where
  pub t : Reads (contents A.means k) table
  t = table_read A P made.old made.old_letters made.letters made.prepared

  abbrev S : Semiautomaton
  S = table_meaning table

  abbrev K : ℕ
  K = lookahead_of table

  ahead : Lookahead S k
  ahead = rw t.means made.prepared.0.1

  here : Lookahead S K
  here = rw t.k_is ahead

  same : (s : ℕ) → S.initial s ≡ A.means.initial s
  same s = ap (λ (T : Semiautomaton). T.initial s) t.means

  module _ (bytes : List ℕ) (a : Answer) (left : List ℕ) (h : held_from + k ≤ length bytes) (o : Opens table bytes a left) where
    opens_as : said a ≡ (opened S K).reply
    opens_as = o.0 ∙ ap (λ (x : Result (List ℕ)). x.reply) (opened_is table t.fit bytes (rw t.k_is h))

    refused_without : ((s : ℕ) → A.means.initial s ≡ false) → said a ≡ refused 13
    refused_without none = opens_as ∙ opened_none S K (λ s. same s ∙ none s)

    taken_with : (s : ℕ) → A.means.initial s ≡ true → Taken a
    taken_with s e r q = opened_some S (W table t.fit here.enough) K here.enough s (same s ∙ e) r (sym opens_as ∙ q)

    -- an opening that is not refused has a start
    started : Taken a → (s : ℕ) × (A.means.initial s ≡ true)
    started taken = elim (decided (any S.n S.initial)) [
      | inl q ↦ with_any S.n S.initial (λ s _ e. (s, sym (same s) ∙ e)) q
      | inr q ↦ absurd (taken 13 (refused_without λ s. sym (same s) ∙ none s q))
    ]
      where
        none : (s : ℕ) → any S.n S.initial ≡ false → S.initial s ≡ false
        none s q = not_so _ λ e. false≢true (sym q ∙ any_in _ _ s ((W table t.fit here.enough).initial_lt s e) e)

  pub walked_right : (offered : List ℕ) (first : Answer) (answers : List Answer) → Walk table k offered first answers → Taken first
      → Demand3 A.means k offered (map said (first ∷ answers))
  walked_right offered first answers w taken =
      let (s, e) = started w.bytes first w.left w.room w.opening taken in
      rw (t.means, t.k_is) at (on_demand3 table t.fit here.enough s (same s ∙ e) here offered first answers (rw t.k_is w))

  pub theorems : Theorems A k table made
  theorems = record {
    opening_refused = refused_without;
    opening_taken = λ bytes a left h o. (started bytes a left h o, λ (s, e). taken_with bytes a left h o s e);
    never_14 = λ bytes letter a left access f q.
        on_never_14 table t.fit here.enough bytes letter (rw (t.means, t.k_is) access) (sym f.0 ∙ q);
    fresh_refusals = λ offered first answers w taken.
        rw (walked_right offered first answers w taken).as_plain (over_meaning.plain_refusals A.means k offered);
    two_shown = λ h.
        let (d, short) = two_shown table t.fit k ahead h in
        (d, subst (λ (T : Semiautomaton). length d.word ≤ T.n + k) t.means short);
    one_shown = one_shown table t.fit k ahead;
  }

pub met : TheoremsMet
met = theorems

pub demand : DemandMet
demand plan party w =
    let P = asked_proper plan party in
    let p = preparing-theorems (asked plan party) P in
    let W = (P.sized w).within in
    record {
      counted = p.counted_right w;
      prepared = p.prepared_right w;
      evidence = p.evidence_passes;
      bound = lookahead_bound (meaning plan party) W;
      bound_one_letter = λ one. lookahead_bound_one (meaning plan party) W one;
      walked_right = walked_right (asked plan party) P;
    }
