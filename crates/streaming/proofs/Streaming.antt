-- The streaming rule, which keeps k letters and a resolved state, replies as the plain walk, which keeps all letters.
-- Assumes nothing.
use Prim.Native.Nat.{ℕ, suc, ◌+◌, ◌-◌, ◌≤◌, ◌<◌, min, zero-le}
use mathlib.Core.Bool.{Bool, true, false, cond, true≢false}
use mathlib.Core.Option.{some, none-ne-some, some-injective}
use mathlib.Core.Path.{◌≡◌, refl, sym, ◌∙◌, ap, fun_ext}
use mathlib.Core.Logic.{◌⊎◌, ◌↔◌, inl, inr}
use mathlib.Core.List.{List, [], ◌∷◌, ◌++◌, append-nil}
use native.Mathlib.Omega.{arith}
use native.Mathlib.Numerals.{add-one}
use native.Mathlib.Nat.{zero-add}
use lib.Dec.{ltb, leb, eqb}
use lib.ListN.{length, drop, length-append, length-drop}
use lib.Seq.{drop-append-le, drop-drop}
use borrow.Author.Tests.{ltb-true, ltb-false, lt-ltb, le-ltb, le-leb, ne_eqb, leb-true, leb-false, eqb-true, eqb-false, eq-eqb, not-false}
use Rattle.bitset.specs.Sets.{size, single}
use Rattle.bitset.proofs.Tests.{and_out, decided, same_test}
use Rattle.bitset.proofs.Below.{any_in, any_out, any_none, size_empty, size_two, size_other, Sole, sole_size, size_sole, least_sole}
use Rattle.semiautomata.specs.Semiautomaton.{Semiautomaton, Within, Accessible, Reached}
use Rattle.semiautomata.specs.Predictability.{initial, SetPredictable, Predictable}
use Rattle.semiautomata.specs.Walks.{Walkable, OnPlan, Possible, TwoPossible, Only, walkable, possible}
use Rattle.streaming.specs.Calls.{refused, nothing}
use Rattle.refusals.specs.Checks.{first_of}
use Rattle.streaming.specs.PlainWalk.{limit, state_at, plain_reply, plain_checks, plain_feed, plain, plain_taken}
use Rattle.streaming.specs.Streaming.{Rec, base, rules, every, sound, latest, sole_at, settle, Undecided, settled, unopened}
use Rattle.streaming.specs.Streaming.{open_checks, opened, feed_checks, feed, UndecidedBy, streamed, record_after}
use Rattle.semiautomata.proofs.Paths.{initial_accessible}
use Rattle.semiautomata.proofs.Computed.{walkable_out, walkable_in, possible_out, possible_in}
use Rattle.semiautomata.proofs.Positions.{single_is, possible_lt, some_possible, possible_unique, restart_walkable, resume_walkable}
use Rattle.semiautomata.proofs.Positions.{restart_possible, resume_possible, whole_in, whole_out}
use Rattle.streaming.proofs.Calls.{behind, Agree, checked_agree, replies_agree, final_agree}
use Rattle.refusals.proofs.First.{Passed, first_passed}

pub length_snoc : (w : List ℕ) (a : ℕ) → length (w ++ (a ∷ [])) ≡ suc (length w)
length_snoc w a = length-append w (a ∷ []) ∙ add-one (length w)

-- where there is an initial state, the walk of no letters is on the plan
pub empty_walked : (S : Semiautomaton) (s : ℕ) → S.initial s ≡ true → OnPlan S []
empty_walked S s e = record { start = s; from_it = e; spells = (s, refl) }

pub opened_none : (S : Semiautomaton) (k : ℕ) → ((s : ℕ) → S.initial s ≡ false) → (opened S k).reply ≡ refused 13
unfolding opened
opened_none S k h = rw (any_none S.n S.initial (λ s _. h s))

-- THE ONE POSSIBLE STATE

pub sole_at_lem : (S : Semiautomaton) (X : ℕ → Bool) (w : List ℕ) (i x : ℕ) → Sole S.n (possible S X w i) x → sole_at S X w i ≡ some x
unfolding sole_at
sole_at_lem S X w i x s = rw (sole_size S.n (possible S X w i) x s, least_sole S.n (possible S X w i) x s)

pub at_sole : (S : Semiautomaton) (X : ℕ → Bool) (w : List ℕ) (i x : ℕ) → sole_at S X w i ≡ some x → Sole S.n (possible S X w i) x
unfolding sole_at
at_sole S X w i x e = go (decided (eqb (size S.n (possible S X w i)) 1))
  where
    go : (eqb (size S.n (possible S X w i)) 1 ≡ true) ⊎ (eqb (size S.n (possible S X w i)) 1 ≡ false)
        → Sole S.n (possible S X w i) x
    go (inr q) = absurd (none-ne-some x (rw (sole_at, q) at e))
    go (inl q) =
        let (y, s) = size_sole S.n (possible S X w i) (eqb-true _ _ q) in
        rw (← some-injective y x (rw (sole_at, q, least_sole S.n (possible S X w i) y s) at e)) s

module _ (S : Semiautomaton) (W : Within S) (X : ℕ → Bool) (below : (s : ℕ) → X s ≡ true → s < S.n) (w : List ℕ) (i x : ℕ) where
  pub sole_out : sole_at S X w i ≡ some x → Possible S X w i x × ((y : ℕ) → Possible S X w i y → y ≡ x)
  sole_out e =
      let s = at_sole S X w i x e in
      (possible_out S X w i x s.member, λ y c. s.only y (possible_lt S X W below c) (possible_in S W X w i y c))

  possible_sole : Possible S X w i x → ((y : ℕ) → Possible S X w i y → y ≡ x) → Sole S.n (possible S X w i) x
  possible_sole c only =
      record { below = possible_lt S X W below c; member = possible_in S W X w i x c; only = λ y _ e. only y (possible_out S X w i y e) }

  pub sole_in : Possible S X w i x × ((y : ℕ) → Possible S X w i y → y ≡ x) → sole_at S X w i ≡ some x
  sole_in (c, only) = sole_at_lem S X w i x (possible_sole c only)

-- 14 WHERE TWO STATES ARE POSSIBLE

module _ (S : Semiautomaton) (W : Within S) (X : ℕ → Bool) (below : (s : ℕ) → X s ≡ true → s < S.n) (k fed : ℕ) (w : List ℕ) where
  abbrev due : ℕ → Bool
  due = possible S X w (length w - k)

  undecided_14 : Undecided S k X fed w → settle S k X fed w ≡ refused 14
  unfolding settle sole_at
  undecided_14 u =
      let t = u.two in
      let lt : (z : ℕ) → Possible S X w (length w - k) z → z < S.n = λ z c. possible_lt S X W below c in
      let is : (z : ℕ) → Possible S X w (length w - k) z → due z ≡ true = λ z c. possible_in S W X w (length w - k) z c in
      let two = size_two S.n due t.x t.y (lt _ t.one) (lt _ t.other) (is _ t.one) (is _ t.other) t.differ in
      rw (le-ltb fed k u.due, sole_at, ne_eqb (size S.n due) 1 (λ e. omega arith))

  -- some state is possible, since the letters can be walked
  more_than_one : Walkable S X w → ¬ (size S.n due ≡ 1) → TwoPossible S X w (length w - k)
  more_than_one o ne =
      let (x, c) = some_possible S X w (length w - k) o in
      let member = possible_in S W X w (length w - k) x c in
      let some : ¬ (size S.n due ≡ 0) = λ z. true≢false (sym member ∙ size_empty S.n due z x (possible_lt S X W below c)) in
      let (y, e, d) = size_other S.n due (omega arith) x in
      record { x = x; y = y; differ = λ q. d (sym q); one = c; other = possible_out S X w (length w - k) y e }

  undecided : Walkable S X w → settle S k X fed w ≡ refused 14 → Undecided S k X fed w
  unfolding settle sole_at
  undecided o e = go (decided (ltb fed k)) (decided (eqb (size S.n due) 1))
    where
      go : (ltb fed k ≡ true) ⊎ (ltb fed k ≡ false) → (eqb (size S.n due) 1 ≡ true) ⊎ (eqb (size S.n due) 1 ≡ false)
          → Undecided S k X fed w
      go (inl q) _ = let x : nothing ≡ refused 14 = rw (settle, q) at e in let z : ◌≡◌ {A = ℕ} 0 1 = cc in absurd (omega arith)
      go (inr q) (inl d) = let x = rw (settle, q, sole_at, d) at e in let z : ◌≡◌ {A = ℕ} 0 1 = cc in absurd (omega arith)
      go (inr q) (inr d) = record { due = ltb-false fed k q; two = more_than_one o (eqb-false _ _ d) }

-- a record that keeps the rules
pub record Regular (S : Semiautomaton) (k : ℕ) (r : Rec) : Type 0 where
  pub fed_le : r.fed ≤ limit
  pub held_are : length r.held ≡ min r.fed k
  pub last_ok : cond (ltb r.fed k) (eqb r.last 255) (ltb r.last S.n) ≡ true

module _ (S : Semiautomaton) (W : Within S) (k : ℕ) (r : Rec) where
  pub rules_out : every (rules S k r) ≡ true → Regular S k r
  rules_out e =
      let (a, e) = and_out (leb r.fed limit) _ e in
      let (b, e) = and_out (eqb (length r.held) (min r.fed k)) _ e in
      let (c, _) = and_out (cond (ltb r.fed k) (eqb r.last 255) (ltb r.last S.n)) _ e in
      record { fed_le = leb-true _ _ a; held_are = eqb-true _ _ b; last_ok = c }

  base_lt : Regular S k r → (s : ℕ) → base S k r s ≡ true → s < S.n
  unfolding base
  base_lt g = go (decided (ltb r.fed k))
    where
      go : (ltb r.fed k ≡ true) ⊎ (ltb r.fed k ≡ false) → (s : ℕ) → base S k r s ≡ true → s < S.n
      go (inl e) = rw e W.initial_lt
      go (inr e) = rw e (λ s h. rw (single_is r.last s h) (ltb-true r.last S.n (rw e at g.last_ok)))

  -- what the checks of a letter show where none applies
  record Taken (a : ℕ) : Type 0 where
    regular : Regular S k r
    walked : Walkable S (base S k r) (r.held ++ (a ∷ []))

  taken : (a : ℕ) → Passed (feed_checks S k r a) → Taken a
  unfolding sound
  taken a (rule, (_, (_, (stuck, _)))) = record {
    regular = rules_out (and_out _ _ (not-false _ rule)).0;
    walked = walkable_out S (base S k r) (r.held ++ (a ∷ [])) (not-false _ stuck);
  }

  pub feeding_14 : (a : ℕ) → ((feed S k r a).reply ≡ refused 14) ↔ ((first_of (feed_checks S k r a) ≡ 0) × UndecidedBy S k r a)
  unfolding feed
  feeding_14 a =
      let w : List ℕ = r.held ++ (a ∷ []) in
      let passed : first_of (feed_checks S k r a) ≡ 0 → Taken a = λ z. taken a (first_passed 13 (feed_checks S k r a) refl z) in
      let (out, in') = behind 14 13 (feed_checks S k r a) refl refl r (settled S k (base S k r) r (suc r.fed) w) in (
        λ e. let (z, d) = out e in
            let t = passed z in
            (z, undecided S W (base S k r) (base_lt t.regular) k (suc r.fed) w t.walked d),
        λ (z, u). in' (z, undecided_14 S W (base S k r) (base_lt (passed z).regular) k (suc r.fed) w u),
      )

module _ (S : Semiautomaton) (W : Within S) (k : ℕ) where
  pub opening_14 : ((opened S k).reply ≡ refused 14) ↔ ((first_of (open_checks S) ≡ 0) × Undecided S k S.initial 0 [])
  unfolding opened
  opening_14 =
      let (out, in') = behind 14 13 (open_checks S) refl refl unopened (settled S k S.initial unopened 0 []) in (
        λ e. let (z, d) = out e in
            let (start, _) = first_passed 13 (open_checks S) refl z in
            let (s, _, is) = any_out S.n S.initial (not-false _ start) in
            (z, undecided S W S.initial W.initial_lt k 0 [] (empty_walked S s is) d),
        λ (z, u). in' (z, undecided_14 S W S.initial W.initial_lt k 0 [] u),
      )

module _ (S : Semiautomaton) (W : Within S) (k : ℕ) (P : Predictable S k) where
  -- WHERE k LETTERS FOLLOW, ONE STATE IS POSSIBLE
  module _ (X : ℕ → Bool) (below : (s : ℕ) → X s ≡ true → s < S.n) (access : Reached S X) (q : SetPredictable S X k) where
    pub sole_possible : (w : List ℕ) (i : ℕ) → Walkable S X w → i + k ≤ length w
        → (x : ℕ) × Possible S X w i x × Sole S.n (possible S X w i) x
    sole_possible w i o h =
        let (x, c) = some_possible S X w i o in
        (x, c, possible_sole S W X below w i x c (λ y d. possible_unique S X access k q P w i y x h d c))

  initial_predictable : SetPredictable S S.initial k
  initial_predictable = P initial tt

  initial_sole : (w : List ℕ) (i : ℕ) → OnPlan S w → i + k ≤ length w
      → (x : ℕ) × Possible S S.initial w i x × Sole S.n (possible S S.initial w i) x
  initial_sole = sole_possible S.initial W.initial_lt initial_accessible initial_predictable

  -- in a walk that is on the plan, a position with k later letters has one possible state
  pub only_state : (w : List ℕ) (i : ℕ) → OnPlan S w → i + k ≤ length w → Only S w i (state_at S w i)
  unfolding state_at
  only_state w i o h =
      let (x, c, s) = initial_sole w i o h in
      rw (least_sole S.n (possible S S.initial w i) x s) (record {
        is = whole_in S w o i x (omega arith) c;
        only = λ y d. let d = whole_out S w o i y d in
            s.only y (possible_lt S S.initial W W.initial_lt d) (possible_in S W S.initial w i y d);
      })

  -- THE RECORD r AFTER THE LETTERS w ARE TAKEN
  pub record Follows (r : Rec) (w : List ℕ) : Type 0 where
    pub fed_are : r.fed ≡ length w
    pub held_are : r.held ≡ latest k w
    pub last_none : length w < k → r.last ≡ 255
    pub last_is : k ≤ length w → Possible S S.initial w (length w - k) r.last
    pub room : length w ≤ limit
    pub walked : OnPlan S w

  -- what the record tells of its letters and any further letters v is what the whole walk tells
  pub record View (r : Rec) (w v : List ℕ) : Type 0 where
    pub can : walkable S (base S k r) (r.held ++ v) ≡ walkable S S.initial (w ++ v)
    pub at : (i : ℕ) → possible S (base S k r) (r.held ++ v) i ≡ possible S S.initial (w ++ v) (length w - k + i)
    pub last_ok : cond (ltb r.fed k) (eqb r.last 255) (ltb r.last S.n) ≡ true

  -- while fed < k it holds the whole walk
  view_early : (r : Rec) (w v : List ℕ) → Follows r w → length w < k → View r w v
  unfolding base
  view_early r w v f h =
      let z : length w - k ≡ 0 = omega arith in
      let held : r.held ≡ w = f.held_are ∙ ap (λ (i : ℕ). drop i w) z in
      let less : ltb r.fed k ≡ true = lt-ltb r.fed k (omega arith) in
      record { can = rw (less, held); at = λ i. rw (less, held, z, zero-add); last_ok = rw less (eq-eqb r.last 255 (f.last_none h)) }

  -- from letter k on it holds the resolved state and what follows it
  view_late : (r : Rec) (w v : List ℕ) → Follows r w → k ≤ length w → View r w v
  unfolding base
  view_late r w v f h =
      let j : ℕ = length w - k in
      let b : ℕ = r.last in
      let fits : j ≤ length w = omega arith in
      let is : Possible S S.initial w j b = f.last_is h in
      let only : (x : ℕ) → Possible S S.initial w j x → x ≡ b =
      λ x c. possible_unique S S.initial initial_accessible k initial_predictable P w j x b (omega arith) c is in
      let more : ltb r.fed k ≡ false = le-ltb r.fed k (omega arith) in
      let b_lt : b < S.n = possible_lt S S.initial W W.initial_lt is in
      record {
        can = rw (more, f.held_are) (same_test _ _
            (λ e. walkable_in S W S.initial W.initial_lt (w ++ v)
            (resume_walkable S S.initial w v j b fits is only (walkable_out S (single b) (drop j w ++ v) e)))
            (λ e. walkable_in S W (single b) (λ s e. rw (single_is b s e) b_lt) (drop j w ++ v)
            (restart_walkable S S.initial w v j b fits is only (walkable_out S S.initial (w ++ v) e))));
        at = λ i. rw (more, f.held_are) (fun_ext (λ y. same_test _ _
            (λ e. possible_in S W S.initial (w ++ v) (j + i) y
            (resume_possible S S.initial w v j b fits is only i y (possible_out S (single b) (drop j w ++ v) i y e)))
            (λ e. possible_in S W (single b) (drop j w ++ v) i y
            (restart_possible S S.initial w v j b fits is only i y (possible_out S S.initial (w ++ v) (j + i) y e)))));
        last_ok = rw more (lt-ltb b S.n b_lt);
      }

  pub view : (r : Rec) (w v : List ℕ) → Follows r w → View r w v
  view r w v f = go (decided (ltb (length w) k))
    where
      go : (ltb (length w) k ≡ true) ⊎ (ltb (length w) k ≡ false) → View r w v
      go (inl e) = view_early r w v f (ltb-true (length w) k e)
      go (inr e) = view_late r w v f (ltb-false (length w) k e)

  -- where the record's positions lie in the walk, and which letters it holds next
  pub offset : (r : Rec) (w v : List ℕ) → Follows r w → length w - k + (length (r.held ++ v) - k) ≡ length (w ++ v) - k
  offset r w v f = rw f.held_are (simp (length-append, length-drop) (omega arith))

  held_next : (r : Rec) (w v : List ℕ) → Follows r w → latest k (r.held ++ v) ≡ latest k (w ++ v)
  held_next r w v f =
      let fits : length w - k ≤ length w = omega arith in
      let o : length w - k + (length (latest k w ++ v) - k) ≡ length (w ++ v) - k = rw f.held_are at (offset r w v f) in
      rw (f.held_are, ← o, ← drop-append-le (length w - k) w v fits)
      (drop-drop (length (drop (length w - k) (w ++ v)) - k) (length w - k) (w ++ v))

  pub follows_sound : (r : Rec) (w : List ℕ) → Follows r w → sound S k r ≡ true
  unfolding sound
  follows_sound r w f =
      let v = view r w [] f in
      let same : walkable S (base S k r) r.held ≡ walkable S S.initial w = rw (append-nil r.held, append-nil w) at v.can in
      let full : walkable S (base S k r) r.held ≡ true = same ∙ walkable_in S W S.initial W.initial_lt w f.walked in
      let len : length r.held ≡ min r.fed k = rw (f.held_are, length-drop) (omega arith) in
      rw (le-leb r.fed limit (omega arith), eq-eqb (length r.held) (min r.fed k) len, v.last_ok, full)

  -- ONE CALL. What is settled from the set X and the letters u is what the plain walk replies once w is taken
  settled_agrees : (X : ℕ → Bool) (old : Rec) (fed : ℕ) (u w : List ℕ) → fed ≡ length w → latest k u ≡ latest k w
      → possible S X u (length u - k) ≡ possible S S.initial w (length w - k) → (length w < k → old.last ≡ 255)
      → length w ≤ limit → OnPlan S w
      → Agree Follows (settled S k X old fed u) (record { reply = plain_reply S k w; state = w })
  unfolding settle plain_reply state_at
  settled_agrees X old fed u w l held same last room o = go (decided (ltb (length w) k))
    where
      go : (ltb (length w) k ≡ true) ⊎ (ltb (length w) k ≡ false)
          → Agree Follows (settled S k X old fed u) (record { reply = plain_reply S k w; state = w })
      go (inl e) =
          let lt : length w < k = ltb-true (length w) k e in
          rw (l, settle, e) (record {
            reply = refl;
            state =
                record { fed_are = refl; held_are = held; last_none = last; last_is = λ h. absurd (omega arith); room = room; walked = o };
          })
      go (inr e) =
          let le : k ≤ length w = ltb-false (length w) k e in
          let (x, c, s) = initial_sole w (length w - k) o (omega arith) in
          let one : sole_at S X u (length u - k) ≡ some x = sole_at_lem S X u (length u - k) x (rw same s) in
          let is = least_sole S.n (possible S S.initial w (length w - k)) x s in
          rw (l, settle, e, one, is)
          (record {
            reply = refl;
            state =
                record {
                  fed_are = refl;
                  held_are = held;
                  last_none = λ h. absurd (omega arith);
                  last_is = λ _. c;
                  room =
                      room;
                  walked = o;
                };
          })

  pub feed_agrees : (r : Rec) (w : List ℕ) (a : ℕ) → Follows r w → Agree Follows (feed S k r a) (plain_feed S k w a)
  unfolding feed plain_feed
  feed_agrees r w a f =
      let v = view r w (a ∷ []) f in
      rw (follows_sound r w f, v.can, ap (leb limit) f.fed_are)
      (checked_agree Follows (plain_checks S w a) r w _ _ f (λ (full, (off, (stuck, _))).
      let room : length w < limit = leb-false limit (length w) full in
      let u : ℕ = length (r.held ++ (a ∷ [])) - k in
      settled_agrees (base S k r) r (suc r.fed) (r.held ++ (a ∷ [])) (w ++ (a ∷ []))
      (ap suc f.fed_are ∙ sym (length_snoc w a)) (held_next r w (a ∷ []) f)
      (v.at u ∙ ap (possible S S.initial (w ++ (a ∷ []))) (offset r w (a ∷ []) f))
      (λ h. f.last_none (omega (arith, length_snoc w a))) (omega (arith, length_snoc w a))
      (walkable_out S S.initial (w ++ (a ∷ [])) (not-false _ stuck))))

  module _ (s : ℕ) (e : S.initial s ≡ true) where
    pub opened_agrees : Agree Follows (opened S k) (record { reply = plain_reply S k []; state = [] })
    unfolding opened
    opened_agrees =
        rw (any_in S.n S.initial s (W.initial_lt s e) e)
        (settled_agrees S.initial unopened 0 [] [] refl refl refl (λ _. refl) zero-le (empty_walked S s e))

    -- for every list of letters offered
    pub streamed_plain : (offered : List ℕ) → streamed S k offered ≡ plain S k offered
    streamed_plain offered =
        rw (
          opened_agrees.reply,
          replies_agree Follows (feed S k) (plain_feed S k) feed_agrees offered (opened S k).state []
              opened_agrees.state,
        )

    pub record_follows : (offered : List ℕ) → Follows (record_after S k offered) (plain_taken S k offered)
    record_follows offered =
        final_agree Follows (feed S k) (plain_feed S k) feed_agrees offered (opened S k).state [] opened_agrees.state

    -- opening is not refused
    pub opened_some : (r : ℕ) → ¬ ((opened S k).reply ≡ refused r)
    unfolding plain_reply
    opened_some r h = go (decided (ltb 0 k))
      where
        go : (ltb 0 k ≡ true) ⊎ (ltb 0 k ≡ false) → ⊥
        go (inl q) = let x = rw (opened_agrees.reply, plain_reply, q) at h in let z : ◌≡◌ {A = ℕ} 0 1 = cc in omega arith
        go (inr q) = let x = rw (opened_agrees.reply, plain_reply, q) at h in let z : ◌≡◌ {A = ℕ} 0 1 = cc in omega arith

  -- 14 ON NO RECORD WHOSE BASE SOME WALK REACHES
  -- the base of a record is k-predictable
  base_predictable : (r : Rec) → SetPredictable S (base S k r) k
  unfolding base
  base_predictable r = go (decided (ltb r.fed k))
    where
      go : (ltb r.fed k ≡ true) ⊎ (ltb r.fed k ≡ false) → SetPredictable S (base S k r) k
      go (inl e) = rw e initial_predictable
      go (inr e) = rw e (λ c. let is = single_is r.last in
          c.rivals.differ (is c.s c.rivals.left ∙ sym (is c.t c.rivals.right)))

  -- k letters follow the position that is due, so two states are not possible there
  pub never_14 : (r : Rec) → Reached S (base S k r) → (a : ℕ) → ¬ ((feed S k r a).reply ≡ refused 14)
  never_14 r access a e =
      let (z, u) = (feeding_14 S W k r a).0 e in
      let t = u.two in
      let g = (taken S W k r a (first_passed 13 (feed_checks S k r a) refl z)).regular in
      let w : List ℕ = r.held ++ (a ∷ []) in
      let follow : length w - k + k ≤ length w = omega (arith, length_snoc r.held a, g.held_are, u.due) in
      t.differ (possible_unique S (base S k r) access k (base_predictable r) P w (length w - k) t.x t.y follow t.one t.other)

-- some walk reaches the initial states, and the base where it reaches the last resolved state
pub base_reached : (S : Semiautomaton) (k : ℕ) (r : Rec) → (k ≤ r.fed → Accessible S r.last) → Reached S (base S k r)
unfolding base
base_reached S k r access = go (decided (ltb r.fed k))
  where
    go : (ltb r.fed k ≡ true) ⊎ (ltb r.fed k ≡ false) → Reached S (base S k r)
    go (inl e) = rw e initial_accessible
    go (inr e) = rw e (λ s h. rw (single_is r.last s h) (access (ltb-false r.fed k e)))
