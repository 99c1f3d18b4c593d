-- What is said of plans A to H, and of our own: tests computed over the whole table, and one law that turns them into what each row says.
-- Assumes nothing.
use Prim.Native.Nat.{ℕ, suc, ◌-◌, ◌*◌, ◌/◌, ◌≤◌, ◌<◌}
use mathlib.Core.Bool.{Bool, true, false, not, false≢true}
use mathlib.Core.Option.{Option, some, none, some-injective}
use mathlib.Core.Path.{◌≡◌, refl, sym, ◌∙◌, ap, subst}
use mathlib.Core.Logic.{inl, inr}
use mathlib.Core.List.{List, [], ◌∷◌}
use native.Mathlib.Omega.{arith}
use lib.Dec.{eqb, ltb}
use lib.ListN.{length, get_or, take}
use lib.Seq.{take-length}
use borrow.Author.Tests.{eqb-true, ltb-false, le-ltb}
use Rattle.bitset.specs.Sets.{any, size}
use Rattle.bitset.specs.Numbers.{set_of}
use Rattle.bitset.proofs.Tests.{not_so}
use Rattle.bitset.proofs.Below.{any_in, any_not}
use Rattle.semiautomata.specs.Semiautomaton.{Semiautomaton, Within}
use Rattle.semiautomata.specs.Predictability.{fork, member, named, Counts}
use Rattle.semiautomata.specs.Access.{accessible_by, accessible}
use Rattle.semiautomata.specs.Walks.{OnPlan, Longest, PossibleAt, spells, step, possible, walkable, greatest, longest}
use Rattle.semiautomata.specs.Selectors.{selector, minimal_selector, maximal_nonselector}
use Rattle.semiautomata.specs.Levels.{live, clash_in, clash}
use Rattle.refusals.specs.Outcomes.{Outcome, refused, answered}
use Rattle.semiautomata.proofs.Access.{accessible_in}
use Rattle.semiautomata.proofs.Paths.{initial_accessible}
use Rattle.semiautomata.proofs.Shares.{lookahead_unique, lookahead_predicts}
use Rattle.plan.specs.Asked.{Asked, refusal_of, Passes, Proper}
use Rattle.plan.proofs.Refusals.{asked_proper}
use Rattle.std.specs.Prelude.{Result, Ok, Err}
use Rattle.refusals.specs.Named.{outcome_of}
use Rattle.refusals.specs.declared.Refusal.{Refusal}
use Rattle.prepare.specs.Preparing.{Prepared, LooksAhead, as_number, Draws}
use Rattle.prepare.specs.Theorems.{Right}
use Rattle.samples.specs.Plans.{bytes, B', T₁, Ahead, AsSaid}
use Rattle.samples.proofs.Plans.{ahead, ahead_so, samples_hold}
use Rattle.streaming.specs.Calls as reply
use Rattle.streaming.specs.PlainWalk.{limit}
use Rattle.streaming.specs.Streaming.{base, sound, sole_at, settle, feed}
use Rattle.slices.specs.Copying.{at_front}
use Rattle.plan.proofs.Asked.{refused_passing}
use Rattle.needs.specs.Needs.{entries, TellsNeeds, NeedsOf}
use Rattle.needs.proofs.Theorems.{met as needs-met}
use Rattle.needs.proofs.Computed.{tells as tells-needs, tells_so}
use Rattle.lookahead.specs.declared.Evidence.{Evidence}
use Rattle.lookahead.specs.Answers.{TrueOf}
use Rattle.claim.specs.Checking.{Checks}
use Rattle.records.specs.Bytes.{held_from, decode, tidy}
use Rattle.deciding.specs.Replies.{Answer, said}
use Rattle.predictor.specs.Calls.{Feeds}
use Rattle.predictor.proofs.Following as following
use Rattle.demand.specs.Rows.{Saying, walked, judged, unopened, at_bound, claimed, uncounted, forged, needed, Row, Replied}
use Rattle.demand.specs.Rows.{drawn, IsSo, AllSo, RowHolds, asked_of, AllRows, evidence, party_rows, rows}
use Rattle.prepare.proofs.Theorems.{theorems as preparing-theorems}
use Rattle.table.specs.Table.{letters_of, lookahead_of, table_meaning, unfit}
use Rattle.walks.specs.Walking.{letter_off}
use Rattle.simulate.specs.declared.Verdict.{Verdict}
use Rattle.simulate.specs.Walking.{Walks}
use Rattle.simulate.specs.Verdicts.{Stands, verdict_refusal, Judges, Tells}
use Rattle.simulate.specs.inner.Verdicts.{Computes}
use Rattle.simulate.proofs.Theorems.{one_set, one_verdict, to_its_end, walked as walked-so}
use Rattle.demand.specs.Demand.{Made}
use Rattle.walks.proofs.Longest.{longest_some}
use Rattle.simulate.proofs.Positions.{possible_stands}
use Rattle.simulate.proofs.Naming.{tells}
use Rattle.demand.proofs.Theorems.{t, theorems}

module _ (A : Asked) (w : Passes A) where
  -- a right answer is what the meaning has
  replies : (v : Option ℕ) → Ahead A.means v → (a : Prepared) → Right A.means a → Replied v a
  replies (some k) h a r = (r.ready k).1 h
  replies none h a r = r.never.1 h

  draws : (v : Option ℕ) → Ahead A.means v → (x : ℕ) → Draws A x → x ≡ drawn v
  draws v h x d = d.is ∙ go v h d.outcome d.looks_ahead
    where
      go : (v : Option ℕ) → Ahead A.means v → (o : Outcome ℕ) → LooksAhead (refusal_of A) A.means o → as_number o ≡ drawn v
      go v h (refused r) (inl (e, n)) = absurd (n (e ∙ w))
      go (some k) h (refused r) (inr (_, _, u)) = absurd (lookahead_predicts h u)
      go none h (refused r) (inr (_, e, _)) = rw e
      go (some k) h (answered j) (_, a) = lookahead_unique a h
      go none h (answered j) (_, a) = absurd (lookahead_predicts a h)

-- WHAT IS SAID BESIDE THE LOOK-AHEAD, of a table that preparing made

module _ (A : Asked) (P : Proper A) (W : Within A.means) (k : ℕ) (table : List ℕ) (made : Made A k table) where
  means : table_meaning table ≡ A.means
  means = (t A P k table made).means

  fit : unfit table ≡ false
  fit = (t A P k table made).fit

  walk_so : (w sets : List ℕ) → OnPlan A.means w
      → ((i : ℕ) → i ≤ length w → Stands A.means.n (PossibleAt A.means w i) (get_or sets i 0))
      → (old out : List ℕ) (a : Result ℕ Refusal) → length w < length old → Walks table w a old out
      → (a ≡ Ok (length w)) × ((i : ℕ) → i ≤ length w → get_or out i 0 ≡ get_or sets i 0)
  walk_so w sets o stand old out a room c =
      let end = to_its_end table w a old out fit (subst (λ (S : Semiautomaton). OnPlan S w) (sym means) o) room c in
      let (_, s, _, _) = walked-so table w (length w) old out (rw end at c) in (
        end,
        λ i h. one_set _ _ _ _ (subst (λ (S : Semiautomaton). Stands S.n (PossibleAt S w i) (get_or out i 0)) means (s i h)) (stand i h),
      )

  abbrev told : Verdict → Result Verdict Refusal
  told v = Ok v

  judge_so : (q a : ℕ) (w : List ℕ) (v : Verdict) → named A.means q a ≡ some (fork q a) → letter_off A.means.m w ≡ false
      → Tells A.means (fork q a) w v
      → (r : Result Verdict Refusal) → Judges table q a w r → r ≡ Ok v
  unfolding verdict_refusal
  judge_so q a w v named-so letters tell (Err r) (e, n, _) =
      let e12 : letter_off (letters_of table) w ≡ false = subst (λ (S : Semiautomaton). letter_off S.m w ≡ false) (sym means) letters in
      let e' : named (table_meaning table) q a ≡ some (fork q a) =
      subst (λ (S : Semiautomaton). named S q a ≡ some (fork q a)) (sym means) named-so in
      absurd (n (e ∙ rw (fit, e', e12)))
  judge_so q a w v named-so letters tell (Ok u) (_, t) =
      let e' : named (table_meaning table) q a ≡ some (fork q a) =
      subst (λ (S : Semiautomaton). named S q a ≡ some (fork q a)) (sym means) named-so in
      ap told (one_verdict A.means (fork q a) w u v
      (subst (λ (S : Semiautomaton). Tells S (fork q a) w u) means (t (fork q a) e')) tell)

  -- a forged record is fed as the rule without bytes says, where the look-ahead is 0
  forged_14 : (bytes : List ℕ) (letter : ℕ) → ahead A.means (some 0) ≡ true → ltb (length bytes) held_from ≡ false
      → tidy 0 bytes ≡ true → (feed A.means 0 (decode bytes) letter).reply ≡ reply.refused 14
      → (left : List ℕ) (a : Answer) → Feeds table bytes letter a left → said a ≡ reply.refused 14
  forged_14 bytes letter is-0 room tidied meets left a f =
      let zero-k : k ≡ 0 = lookahead_unique made.prepared.0.1 (ahead_so A.means W (some 0) is-0) in
      let k_is : lookahead_of table ≡ 0 = (t A P k table made).k_is ∙ zero-k in
      let holds : following.Holds (lookahead_of table) bytes (decode bytes) = record {
        room = rw k_is (omega (arith, ltb-false (length bytes) held_from room));
        tidied = rw k_is tidied;
        is = refl;
      } in
      f.0 ∙ ap (λ (x : reply.Result (List ℕ)). x.reply) (following.fed_is table fit bytes (decode bytes) letter holds) ∙ rw (means, k_is) meets

-- WHAT IS SAID OF CLAIMS

module _ (A : Asked) (w : Passes A) where
  claimed_yes : (e : Evidence) (letters : List ℕ) → TrueOf A.means e letters → (r : Result Bool Refusal) → Checks A e letters r
      → r ≡ Ok true
  claimed_yes e letters holds (Err r) (is, ne, _) = absurd (ne (is ∙ w))
  claimed_yes e letters holds (Ok true) _ = refl
  claimed_yes e letters holds (Ok false) (_, (_, so)) = absurd (false≢true (so holds))

  -- a set named by an unreachable state doesn't count, so that no claim about it is true
  uncounted_no : Within A.means → (q a : ℕ) → named A.means q a ≡ some (fork q a) → accessible A.means q ≡ false
      → (e : Evidence) (letters : List ℕ) (r : Result Bool Refusal) → e.state ≡ q → e.letter ≡ a → Checks A e letters r → r ≡ Ok false
  uncounted_no W q a name off e letters (Err r) _ _ (is, ne, _) = absurd (ne (is ∙ w))
  uncounted_no W q a name off e letters (Ok true) q-is a-is (_, (so, _)) =
      let c = so refl in
      let same : c.set ≡ fork q a = some-injective _ _ (sym c.names ∙ rw (q-is, a-is) name) in
      let counts : Counts A.means (fork q a) = subst (Counts A.means) same c.witness.counts in
      absurd (false≢true (sym off ∙ accessible_in A.means W q counts.0))
  uncounted_no W q a name off e letters (Ok false) _ _ _ = refl

-- THE NEEDS, of which there is one list

needed_so : (A : Asked) → Proper A → Passes A → (numbers : List ℕ) → TellsNeeds A.means numbers → (old needs : List ℕ)
    → length numbers ≤ length old → (a : Result ℕ Refusal) → NeedsOf A a old needs
    → (outcome_of a ≡ answered (length numbers)) × (needs ≡ at_front numbers old)
needed_so A P w numbers t old needs room a d =
    (needs-met A P).same a (Ok (length numbers)) old needs (at_front numbers old) d (
      refused_passing A P w _ ∙ rw (le-ltb (length old) (entries A.means) (rw (← t.long) room)),
      (t.long, record { numbers = numbers; tells = t; is = refl }),
    )

not-false : (b : Bool) → not b ≡ false → b ≡ true
not-false true e = refl
not-false false e = absurd (false≢true (sym e))

abbrev Computed : Semiautomaton → Saying → Type 0
Computed S (walked w sets) =
    (any S.n S.initial ≡ true) × (longest S w ≡ length w)
    × (any (suc (length w)) (λ i. not (eqb (get_or sets i 0) (set_of S.n (possible S S.initial (take (length w) w) i)))) ≡ false)
Computed S (judged q a w v) = (named S q a ≡ some (fork q a)) × (letter_off S.m w ≡ false) × Computes S (member S (fork q a)) w v
Computed S unopened = any S.n S.initial ≡ false
Computed S at_bound = ahead S (some (S.n * (S.n - 1) / 2)) ≡ true
Computed S (claimed e letters) = TrueOf S e letters
Computed S (uncounted q a) = (named S q a ≡ some (fork q a)) × (accessible S q ≡ false)
Computed S (forged bytes letter) =
    (ahead S (some 0) ≡ true) × (ltb (length bytes) held_from ≡ false) × (tidy 0 bytes ≡ true)
    × ((feed S 0 (decode bytes) letter).reply ≡ reply.refused 14)
Computed S (needed numbers) = tells-needs S numbers ≡ true

abbrev AllComputed : Semiautomaton → List Saying → Type 0
AllComputed S [] = Unit {0}
AllComputed S (c ∷ cs) = Computed S c × AllComputed S cs

is_so : (A : Asked) → Proper A → Passes A → Within A.means → (c : Saying) → Computed A.means c → IsSo A c
is_so A P passes W (walked w sets) (begun, whole, at) = λ k table old out a made.
    let S = A.means in
    let l : Longest S w (length w) = rw whole at (longest_some S W w begun) in
    walk_so A P W k table made w sets (rw (take-length w) at l.walked)
    (λ i h. possible_stands S w W (length w) l i h (eqb-true _ _ (not-false _ (any_not _ _ at i (omega arith))))) old out a
is_so A P passes W (judged q a w v) (name, letters, c) =
    λ k table r made. judge_so A P W k table made q a w v name letters (tells A.means W (fork q a) c) r
is_so A P w W at_bound e = λ k table made. lookahead_unique made.prepared.0.1 (ahead_so A.means W (some _) e)
is_so A P w W unopened e = λ k table bytes left a made room o.
    (theorems A P k table made).opening_refused bytes a left room o
    (λ s. not_so _ λ q. false≢true (sym e ∙ any_in _ _ s (W.initial_lt s q) q))
is_so A P w W (claimed e letters) c = claimed_yes A w e letters c
is_so A P w W (uncounted q a) (name, off) = uncounted_no A w W q a name off
is_so A P w W (forged bytes letter) (zero-k, room, tidied, meets) =
    λ k table left a made. forged_14 A P W k table made bytes letter zero-k room tidied meets left a
is_so A P w W (needed numbers) e = λ a old needs room.
    needed_so A P w numbers (tells_so A.means W (P.sized w).n_high numbers e) old needs room a

all_so : (A : Asked) → Proper A → Passes A → Within A.means → (cs : List Saying) → AllComputed A.means cs → AllSo A cs
all_so A P w W [] _ = tt
all_so A P w W (c ∷ cs) (p, ps) = (is_so A P w W c p, all_so A P w W cs ps)

-- THE TABLE

row_holds : (r : Row) → AsSaid r.sample → AllComputed (asked_of r.sample).means r.sayings
    → RowHolds (asked_of r.sample) r.sample.party r.sample.lookahead r.sayings
row_holds r h c =
    let A = asked_of r.sample in
    let P = asked_proper (bytes r.sample) r.sample.party in
    let k = r.sample.lookahead in
    let w = h.passes in
    let right = preparing-theorems A P in
    record {
      counted = λ a old letters g c. replies A w k h.ahead a (right.counted_right w a old letters g c);
      prepared = λ a old table old' letters f g c. replies A w k h.ahead a (right.prepared_right w a old table old' letters f g c);
      drew = λ _. draws A w k h.ahead;
      so = all_so A P w (P.sized w).within r.sayings c;
    }

abbrev AllHold : List Row → Type 0
AllHold [] = Unit {0}
AllHold (r ∷ rs) = AsSaid r.sample × AllHold rs

abbrev AllSaid : List Row → Type 0
AllSaid [] = Unit {0}
AllSaid (r ∷ rs) = AllComputed (asked_of r.sample).means r.sayings × AllSaid rs

all_rows : (rs : List Row) → AllHold rs → AllSaid rs → AllRows rs
all_rows [] _ _ = tt
all_rows (r ∷ rs) (h, hs) (c, cs) = (h, row_holds r h c, all_rows rs hs cs)

-- stake 0 goes round by the loop 0, and so does stake 1, both led to from the start
both_loop : (S : Semiautomaton) → named S 0 0 ≡ some (fork 0 0) → 1 ≤ S.n * S.n → S.initial 0 ≡ true → S.edge 0 0 0 ≡ true
    → S.edge 0 0 1 ≡ true → S.edge 1 0 1 ≡ true → TrueOf S (evidence 0 0 0 1 0 1) (0 ∷ [])
both_loop S name few start zero fork-one one = record {
  set = fork 0 0;
  names = name;
  there = omega arith;
  witness = record {
    counts = (initial_accessible 0 start, (0, zero));
    s_in = zero;
    t_in = fork-one;
    order = omega arith;
    turns = omega arith;
    short = few;
    s_lasso = record { knot = 0; reached = refl; back = (0, zero, refl) };
    t_lasso = record { knot = 1; reached = refl; back = (1, one, refl) };
  };
}

parties_said : AllSaid party_rows
unfolding any spells step possible walkable greatest longest set_of size accessible accessible_by clash_in clash live
parties_said = (
  ((refl, refl, refl), (refl, tt)),
  (
    (both_loop (asked_of T₁).means refl (omega arith) refl refl refl refl, (refl, tt)),
    (((refl, refl, refl), (refl, tt)), (((refl, refl, refl), (refl, tt)), ((refl, tt), tt))),
  ),
)

rows_said : AllSaid rows
unfolding any spells step possible walkable greatest longest selector minimal_selector maximal_nonselector set_of size accessible accessible_by
    clash_in clash live tidy feed sound base settle sole_at limit
rows_said = (
  (
    (refl, refl, record { survivors = refl; minimal = refl; nonselected = refl }),
    ((refl, refl, record { survivors = refl; minimal = refl; nonselected = refl }), ((refl, refl, refl), (refl, tt))),
  ),
  (
    (refl, tt),
    (
      ((refl, refl, refl), (refl, tt)),
      (
        ((refl, refl), ((refl, refl, record { survivors = refl; minimal = refl; nonselected = refl }), (refl, tt))),
        (
          (refl, (refl, tt)),
          (
            ((refl, refl, refl), (refl, tt)),
            (
              (refl, ((refl, refl, refl), (refl, tt))),
              (
                (refl, tt),
                (
                  ((refl, refl, refl), (refl, tt)),
                  (
                    (both_loop (asked_of B').means refl (omega arith) refl refl refl refl, ((refl, refl), (refl, tt))),
                    ((refl, ((refl, refl), (refl, tt))), (((refl, refl, refl, refl), ((refl, refl), (refl, tt))), parties_said)),
                  ),
                ),
              ),
            ),
          ),
        ),
      ),
    ),
  ),
)

pub rows_hold : AllRows rows
rows_hold = all_rows rows samples_hold rows_said
