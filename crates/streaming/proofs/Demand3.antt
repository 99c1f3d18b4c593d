-- Demand 3 of the plain walk, and so of all that replies as it does: the streaming rule, where there is a look-ahead and an initial state.
-- Assumes nothing.
use Prim.Native.Nat.{ℕ, zero, suc, ◌+◌, ◌-◌, ◌≤◌, ◌<◌}
use mathlib.Core.Bool.{Bool, true, false, not, cond}
use mathlib.Core.Path.{◌≡◌, refl, sym, ◌∙◌, ap}
use mathlib.Core.Logic.{◌⊎◌, inl, inr}
use mathlib.Core.List.{List, [], ◌∷◌, ◌++◌, append-nil, append_assoc}
use native.Mathlib.Omega.{arith}
use native.Mathlib.Nat.{zero-add, add-zero, suc-add, add-suc}
use lib.Dec.{ltb}
use lib.ListN.{length, length-append, length-drop}
use borrow.Author.Tests.{ltb-true, ltb-false, leb-true, le-leb, lt-leb, not-false}
use Rattle.bitset.proofs.Tests.{decided, same_test}
use Rattle.semiautomata.specs.Semiautomaton.{Semiautomaton, Within}
use Rattle.semiautomata.specs.Predictability.{Predictable}
use Rattle.semiautomata.specs.Walks.{OnPlan, Possible, Only, possible}
use Rattle.streaming.specs.Calls.{Reply, refused, resolved, nothing, Result, replies, final}
use Rattle.streaming.specs.PlainWalk.{state_at, plain_reply, plain_checks, plain_feed, plain, plain_taken}
use Rattle.streaming.specs.Demand3.{accepted, Resolution, resolutions_from, resolutions, followed, resolution, due}
use Rattle.semiautomata.specs.Lists.{range, collect}
use Rattle.streaming.specs.Demand3.{Only11to13, Demand3}
use Rattle.streaming.specs.Streaming.{Rec, base, unresolved, finish, streamed, record_after}
use Rattle.semiautomata.proofs.Computed.{walkable_out}
use Rattle.semiautomata.proofs.Positions.{possible_earlier, whole_in, whole_out}
use Rattle.streaming.proofs.Calls.{Among, Course, refuses, passes, course}
use Rattle.streaming.proofs.Streaming.{length_snoc, empty_walked, only_state, Follows, view, streamed_plain, record_follows}

-- COLLECTING OVER A RANGE

-- f at c numbers from p on
abbrev window : {A : Type 0} → (ℕ → A) → ℕ → ℕ → List A
window f p zero = []
window f p (suc c) = f p ∷ window f (suc p) c

module _ {A : Type 0} (q : ℕ → Bool) (f : ℕ → A) where
  collect_split : (a b p : ℕ) → collect q f (range p (a + b)) ≡ collect q f (range p a) ++ collect q f (range (p + a) b)
  collect_split zero b p = rw (zero-add, add-zero)
  collect_split (suc a) b p = rw (suc-add, add-suc) (go (q p) (collect_split a b (suc p)))
    where
      go : (t : Bool) → collect q f (range (suc p) (a + b)) ≡ collect q f (range (suc p) a) ++ collect q f (range (suc p + a) b)
          → cond t (f p ∷ collect q f (range (suc p) (a + b))) (collect q f (range (suc p) (a + b)))
          ≡ cond t (f p ∷ collect q f (range (suc p) a)) (collect q f (range (suc p) a)) ++ collect q f (range (suc (p + a)) b)
      go true ih = rw (ih, suc-add)
      go false ih = rw (ih, suc-add)

  collect_none : (p c : ℕ) → ((i : ℕ) → p ≤ i → i < p + c → q i ≡ false) → collect q f (range p c) ≡ []
  collect_none p zero h = refl
  collect_none p (suc c) h = rw (h p (omega arith) (omega arith)) (collect_none (suc p) c (λ i a b. h i (omega arith) (omega arith)))

  collect_all : (p c : ℕ) → ((i : ℕ) → p ≤ i → i < p + c → q i ≡ true) → collect q f (range p c) ≡ window f p c
  collect_all p zero h = refl
  collect_all p (suc c) h = rw (h p (omega arith) (omega arith), collect_all (suc p) c (λ i a b. h i (omega arith) (omega arith)))

collect_shift : {A : Type 0} (q q' : ℕ → Bool) (f f' : ℕ → A) (j : ℕ) → ((i : ℕ) → q (j + i) ≡ q' i) → ((i : ℕ) → f (j + i) ≡ f' i)
    → (p c : ℕ) → collect q f (range (j + p) c) ≡ collect q' f' (range p c)
collect_shift q q' f f' j h g p zero = refl
collect_shift q q' f f' j h g p (suc c) = rw (h p, g p, ← add-suc, collect_shift q q' f f' j h g (suc p) c)

-- the positions followed by k or more letters are the first ones
pub due_window : (k : ℕ) (w : List ℕ) (state : ℕ → ℕ) → due k w state ≡ window (resolution k state) 0 (suc (length w) - k)
unfolding followed
due_window k w state =
    let f : ℕ → Resolution = resolution k state in
    let d : ℕ = suc (length w) - k in
    let all : suc (length w) ≡ d + (suc (length w) - d) = omega arith in
    let first = collect_all (followed k w) f 0 d (λ i _ h. le-leb (i + k) (length w) (omega arith)) in
    let last = collect_none (followed k w) f (0 + d) (suc (length w) - d) (λ i h _. lt-leb (i + k) (length w) (omega arith)) in
    ap (λ (c : ℕ). collect (followed k w) f (range 0 c)) all ∙ collect_split (followed k w) f d (suc (length w) - d) 0
    ∙ rw (first, last) (append-nil _)

-- the resolutions among replies, where i letters are taken once the first is answered, unless it is a refusal
abbrev counted : ℕ → List Reply → List Resolution
counted i [] = []
counted i (refused r ∷ rs) = counted i rs
counted i (resolved p x ∷ rs) = record { arrived = i; position = p; state = x } ∷ counted (suc i) rs
counted i (nothing ∷ rs) = counted (suc i) rs

from_counted : (i : ℕ) (rs : List Reply) → resolutions_from i rs ≡ counted (suc i) rs
from_counted i [] = refl
from_counted i (refused r ∷ rs) = from_counted i rs
from_counted i (resolved p x ∷ rs) = rw (from_counted (suc i) rs)
from_counted i (nothing ∷ rs) = from_counted (suc i) rs

resolutions_counted : (S : Semiautomaton) (k : ℕ) (w : List ℕ) (rs : List Reply)
    → resolutions (plain_reply S k w ∷ rs) ≡ counted 0 (plain_reply S k w ∷ rs)
unfolding plain_reply
resolutions_counted S k w rs = go (ltb (length w) k)
  where
    go : (b : Bool) → let r = cond b nothing (resolved (length w - k) (state_at S w (length w - k))) in
        resolutions (r ∷ rs) ≡ counted 0 (r ∷ rs)
    go true = from_counted 0 rs
    go false = rw (from_counted 0 rs)

-- A LETTER OFFERED TO THE PLAIN WALK: refused, or taken with the walk still on the plan
pub data Offered (S : Semiautomaton) (k : ℕ) (w : List ℕ) (a : ℕ) : Result (List ℕ) → Type 0 where
  refuses_it : (number : ℕ) → Among number (plain_checks S w a) → Offered S k w a (record { reply = refused number; state = w })
  takes_it : OnPlan S (w ++ (a ∷ [])) → Offered S k w a (record { reply = plain_reply S k (w ++ (a ∷ [])); state = w ++ (a ∷ []) })

module _ (S : Semiautomaton) (k : ℕ) where
  pub offered_cases : (w : List ℕ) (a : ℕ) → Offered S k w a (plain_feed S k w a)
  unfolding plain_feed
  offered_cases w a = go (plain_feed S k w a) (course (plain_checks S w a) w done)
    where
      done : Result (List ℕ)
      done = record { reply = plain_reply S k (w ++ (a ∷ [])); state = w ++ (a ∷ []) }

      go : (s : Result (List ℕ)) → Course (plain_checks S w a) w done s → Offered S k w a s
      go s (refuses number among) = refuses_it number among
      go s (passes (_, (_, (stuck, _)))) = takes_it (walkable_out S S.initial (w ++ (a ∷ [])) (not-false _ stuck))

  accepted_reply : (w : List ℕ) (a : ℕ) (more : List ℕ) (rs : List Reply)
      → accepted (a ∷ more) (plain_reply S k w ∷ rs) ≡ a ∷ accepted more rs
  unfolding plain_reply
  accepted_reply w a more rs = go (ltb (length w) k)
    where
      go : (b : Bool) → accepted (a ∷ more) (cond b nothing (resolved (length w - k) (state_at S w (length w - k))) ∷ rs)
          ≡ a ∷ accepted more rs
      go true = refl
      go false = refl

  -- the letters taken are those not refused, and they are on the plan
  final_is : (rest : List ℕ) (w : List ℕ) → final (plain_feed S k) w rest ≡ w ++ accepted rest (replies (plain_feed S k) w rest)
  final_is [] w = sym (append-nil w)
  final_is (a ∷ rest) w = go (plain_feed S k w a) (offered_cases w a) (final_is rest)
    where
      go : (t : Result (List ℕ)) → Offered S k w a t
          → ((u : List ℕ) → final (plain_feed S k) u rest ≡ u ++ accepted rest (replies (plain_feed S k) u rest)) →
          final (plain_feed S k) t.state rest ≡ w ++ accepted (a ∷ rest) (t.reply ∷ replies (plain_feed S k) t.state rest)
      go t (refuses_it r _) ih = ih w
      go t (takes_it o) ih = rw (accepted_reply, ih (w ++ (a ∷ [])), append_assoc)

  final_walked : (rest : List ℕ) (w : List ℕ) → OnPlan S w → OnPlan S (final (plain_feed S k) w rest)
  final_walked [] w o = o
  final_walked (a ∷ rest) w o = go (plain_feed S k w a) (offered_cases w a) (final_walked rest)
    where
      go : (t : Result (List ℕ)) → Offered S k w a t → ((u : List ℕ) → OnPlan S u → OnPlan S (final (plain_feed S k) u rest))
          → OnPlan S (final (plain_feed S k) t.state rest)
      go t (refuses_it r _) ih = ih w o
      go t (takes_it o') ih = ih (w ++ (a ∷ [])) o'

  pub taken_walked : (s : ℕ) → S.initial s ≡ true → (offered : List ℕ) → OnPlan S (plain_taken S k offered)
  taken_walked s e offered = final_walked offered [] (empty_walked S s e)

  -- the plain walk refuses with 11, 12 and 13 alone
  plain_only : (w : List ℕ) (rs : List Reply) → Only11to13 rs → Only11to13 (plain_reply S k w ∷ rs)
  unfolding plain_reply
  plain_only w rs h = go (ltb (length w) k)
    where
      go : (b : Bool) → Only11to13 (cond b nothing (resolved (length w - k) (state_at S w (length w - k))) ∷ rs)
      go true = h
      go false = h

  replies_only : (offered w : List ℕ) → Only11to13 (replies (plain_feed S k) w offered)
  replies_only [] w = tt
  replies_only (a ∷ rest) w = go (plain_feed S k w a) (offered_cases w a) (replies_only rest)
    where
      go : (t : Result (List ℕ)) → Offered S k w a t → ((u : List ℕ) → Only11to13 (replies (plain_feed S k) u rest))
          → Only11to13 (t.reply ∷ replies (plain_feed S k) t.state rest)
      go t (takes_it o) ih = plain_only (w ++ (a ∷ [])) (replies (plain_feed S k) (w ++ (a ∷ [])) rest) (ih (w ++ (a ∷ [])))
      go t (refuses_it r (inl x)) ih = (omega arith, omega arith, ih w)
      go t (refuses_it r (inr (inl x))) ih = (omega arith, omega arith, ih w)
      go t (refuses_it r (inr (inr (inl x)))) ih = (omega arith, omega arith, ih w)
      go t (refuses_it r (inr (inr (inr x)))) ih = absurd x

  pub plain_refusals : (offered : List ℕ) → Only11to13 (plain S k offered)
  plain_refusals offered = plain_only [] (replies (plain_feed S k) [] offered) (replies_only offered [])

module _ (S : Semiautomaton) (W : Within S) (k : ℕ) (P : Predictable S k) where
  -- what is left to resolve from position p on of a walk of l letters
  left : (ℕ → ℕ) → ℕ → ℕ → List Resolution
  left state l p = window (resolution k state) p (suc l - k - p)

  -- state i is possible at each position i of w that k or more letters follow
  abbrev Names : (ℕ → ℕ) → List ℕ → Type 0
  Names state w = (i : ℕ) → i + k ≤ length w → Possible S S.initial w i (state i)

  -- one call that takes a letter, with what the calls after it resolve
  one_call : (state : ℕ → ℕ) (w more : List ℕ) (rs : List Reply) → OnPlan S w → Names state (w ++ more) →
      counted (suc (length w)) rs ≡ left state (length (w ++ more)) (suc (length w) - k) →
      counted (length w) (plain_reply S k w ∷ rs) ≡ left state (length (w ++ more)) (length w - k)
  unfolding plain_reply left
  one_call state w more rs o names h = go (decided (ltb (length w) k))
    where
      go : (ltb (length w) k ≡ true) ⊎ (ltb (length w) k ≡ false)
          → counted (length w) (plain_reply S k w ∷ rs) ≡ left state (length (w ++ more)) (length w - k)
      go (inl e) =
          let lt : length w < k = ltb-true (length w) k e in
          let z : length w - k ≡ suc (length w) - k = omega arith in
          rw (plain_reply, e, z) h
      go (inr e) =
          let le : k ≤ length w = ltb-false (length w) k e in
          let p : ℕ = length w - k in
          let len = length-append w more in
          let here : Possible S S.initial w p (state p) =
          possible_earlier S S.initial w more p (state p) (omega arith) (names p (omega (arith, len))) in
          let same : state p ≡ state_at S w p =
          (only_state S W k P w p o (omega arith)).only (state p) (whole_in S w o p (state p) (omega arith) here) in
          let next : suc (length w) - k ≡ suc p = omega arith in
          let count : suc (length (w ++ more)) - k - p ≡ suc (suc (length (w ++ more)) - k - suc p) = omega (arith, len) in
          let at : p + k ≡ length w = omega arith in
          rw (plain_reply, e, count, at, same, h, next)

  -- all calls after w is taken
  all_calls : (state : ℕ → ℕ) (offered w : List ℕ) → Names state (final (plain_feed S k) w offered) →
      counted (suc (length w)) (replies (plain_feed S k) w offered)
      ≡ left state (length (final (plain_feed S k) w offered)) (suc (length w) - k)
  unfolding left
  all_calls state [] w names = let z : suc (length w) - k - (suc (length w) - k) ≡ 0 = omega arith in rw z
  all_calls state (a ∷ rest) w names = go (plain_feed S k w a) (offered_cases S k w a) (all_calls state rest) names
    where
      go : (t : Result (List ℕ)) → Offered S k w a t →
          ((u : List ℕ) → Names state (final (plain_feed S k) u rest) →
          counted (suc (length u)) (replies (plain_feed S k) u rest)
          ≡ left state (length (final (plain_feed S k) u rest)) (suc (length u) - k)) →
          Names state (final (plain_feed S k) t.state rest) →
          counted (suc (length w)) (t.reply ∷ replies (plain_feed S k) t.state rest)
          ≡ left state (length (final (plain_feed S k) t.state rest)) (suc (length w) - k)
      go t (refuses_it r _) ih names = ih w names
      go t (takes_it o) ih names =
          let u : List ℕ = w ++ (a ∷ []) in
          let more : List ℕ = accepted rest (replies (plain_feed S k) u rest) in
          let f : final (plain_feed S k) u rest ≡ u ++ more = final_is S k rest u in
          let names' : Names state (u ++ more) = rw f at names in
          let ih' : counted (suc (length u)) (replies (plain_feed S k) u rest) ≡ left state (length (u ++ more)) (suc (length u) - k) =
          rw f at (ih u names) in
          rw (← length_snoc w a, f) (one_call state u more (replies (plain_feed S k) u rest) o names' ih')

  finish_follows : (r : Rec) (w : List ℕ) → Follows S W k P r w → finish S k r ≡ unresolved S k S.initial w
  unfolding unresolved followed
  finish_follows r w f =
      let j : ℕ = length w - k in
      let c : ℕ = suc (length r.held) in
      let q : ℕ → Bool = λ i. not (followed k w i) in
      let len : length r.held ≡ length w - j = rw f.held_are (length-drop j w) in
      let at : (i : ℕ) → possible S S.initial w (j + i) ≡ possible S (base S k r) r.held i =
      λ i. sym (rw (append-nil r.held, append-nil w) at ((view S W k P r w [] f).at i)) in
      let all : suc (length w) ≡ j + c = omega arith in
      let first : collect q (possible S S.initial w) (range 0 j) ≡ [] =
      collect_none q (possible S S.initial w) 0 j (λ i _ h. ap not (le-leb (i + k) (length w) (omega arith))) in
      let same : (i : ℕ) → followed k w (j + i) ≡ followed k r.held i = λ i. same_test _ _
      (λ e. le-leb (i + k) (length r.held) (omega (arith, leb-true (j + i + k) (length w) e)))
      (λ e. le-leb (j + i + k) (length w) (omega (arith, leb-true (i + k) (length r.held) e))) in
      let rest : collect q (possible S S.initial w) (range (0 + j) c)
      ≡ collect (λ i. not (followed k r.held i)) (possible S (base S k r) r.held) (range 0 c) =
      rw (zero-add, ← add-zero j)
      (collect_shift q (λ i. not (followed k r.held i)) (possible S S.initial w) (possible S (base S k r) r.held) j
      (λ i. ap not (same i)) at 0 c) in
      sym (ap (λ (c : ℕ). collect q (possible S S.initial w) (range 0 c)) all ∙ collect_split q (possible S S.initial w) j c 0
      ∙ rw (first, rest))

  module _ (s : ℕ) (e : S.initial s ≡ true) where
    pub plain_demand3 : (offered : List ℕ) → Demand3 S k offered (plain S k offered)
    unfolding left followed
    plain_demand3 offered =
        let walk : List ℕ = accepted offered (replies (plain_feed S k) [] offered) in
        let taken_is : plain_taken S k offered ≡ walk = final_is S k offered [] in
        let walked : OnPlan S walk = rw taken_is at (taken_walked S k s e offered) in
        let state : ℕ → ℕ = state_at S walk in
        let only : (i : ℕ) → i + k ≤ length walk → Only S walk i (state i) = λ i h. only_state S W k P walk i walked h in
        let names : Names state walk = λ i h. whole_out S walk walked i (state i) (only i h).is in
        let z : 0 - k ≡ 0 = omega arith in
        let z' : suc (length walk) - k - 0 ≡ suc (length walk) - k = omega arith in
        let later : counted 1 (replies (plain_feed S k) [] offered) ≡ left state (length walk) (1 - k) =
        rw taken_is at (all_calls state offered [] (rw taken_is names)) in
        let all : counted 0 (plain S k offered) ≡ left state (length walk) (0 - k) =
        one_call state [] walk (replies (plain_feed S k) [] offered) (empty_walked S s e) names later in
        record {
          start = s;
          opens = e;
          as_plain = refl;
          same_letters = sym taken_is;
          state = state;
          one = λ i h. only i (leb-true (i + k) (length walk) h);
          resolves = resolutions_counted S k [] (replies (plain_feed S k) [] offered) ∙ rw (z, z') at all ∙ sym (due_window k walk state);
        }

    pub demand3 : (offered : List ℕ) → Demand3 S k offered (streamed S k offered)
    demand3 offered = rw (streamed_plain S W k P s e offered) (plain_demand3 offered)

    pub fresh_refusals : (offered : List ℕ) → Only11to13 (streamed S k offered)
    fresh_refusals offered = rw (streamed_plain S W k P s e offered) (plain_refusals S k offered)

    -- ending gives the possible states of the whole walk at the positions that are not resolved
    pub finish_whole : (offered : List ℕ) → finish S k (record_after S k offered) ≡ unresolved S k S.initial (plain_taken S k offered)
    finish_whole offered = finish_follows (record_after S k offered) (plain_taken S k offered) (record_follows S W k P s e offered)
