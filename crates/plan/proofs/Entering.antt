-- What holds between two turns of the loops over starts and lines: `-none` before the first, `-next` or `-off` after one more.
-- Assumes nothing.
use Prim.Native.Nat.{ℕ, suc, ◌+◌, ◌*◌, ◌^◌, ◌%◌, ◌≤◌, ◌<◌, max}
use mathlib.Core.Bool.{Bool, true, false, not, ◌&&◌, ◌||◌, true≢false, and-true, and-false, or-true, or-false, or_assoc}
use mathlib.Core.Path.{◌≡◌, refl, sym, ◌∙◌}
use mathlib.Core.Logic.{inl, inr}
use mathlib.Core.List.{List}
use native.Mathlib.Omega.{arith}
use native.Mathlib.Numerals.{add-one}
use native.Mathlib.Nat.{lt_of_lt_of_le}
use native.Mathlib.Decide.{ℕ_discrete}
use Rattle.std.specs.Prelude.{◌≢◌}
use lib.Dec.{eqb, ltb, leb}
use lib.ListN.{length, get_or, set, length-set}
use lib.Seq.{get_or-set_same, get_or-set_other}
use lib.Bits.{bit_or, or_lt}
use lib.Pow.{pow-lt, pow_pos}
use borrow.Author.Tests.{lt-ltb, ltb-true, ltb-false, le-leb, lt-leb, leb-false, eqb-true, eq-eqb, ne_eqb, not-true, not-false}
use Rattle.bitset.specs.Sets.{any}
use Rattle.bitset.specs.Numbers.{has, set_of}
use Rattle.bitset.proofs.Tests.{decided, not_so, or_left, or_right, or_none, same_test}
use Rattle.bitset.proofs.Below.{any_in, any_none, any_not}
use Rattle.bitset.proofs.Bits.{has_empty, has_set_of, has_insert, shl_one, same_members}
use Rattle.semiautomata.specs.Sizes.{max_sets}
use Rattle.semiautomata.specs.Successors.{place, Blank}
use Rattle.semiautomata.proofs.BySets.{place_lt}
use Rattle.semiautomata.proofs.Places.{size_le, place_same}
use Rattle.plan.specs.declared.Line.{Line}
use Rattle.plan.specs.declared.Lines.{Lines}
use Rattle.plan.specs.Plan.{Plan, says, is_start, semiautomaton, max_party, start_high, start_off, line_fits, line_off, party_high}
use Rattle.plan.specs.inner.Entering.{NumbersOff, LineEntered}
use Rattle.plan.specs.inner.Steps.{LinesRead}
use Rattle.plan.proofs.Tests.{not_and, not_ltb}
use Rattle.plan.proofs.OneLine.{same_with}
use Rattle.plan.proofs.Plan.{says_is}

-- the plan with the first i of its starts, or of its lines
abbrev pub starts_to : ℕ → Plan → Plan
starts_to i P = record { edition = P.edition; n = P.n; m = P.m; p = i; e = P.e; start = P.start; line = P.line }

abbrev pub lines_to : ℕ → Plan → Plan
lines_to i P = record { edition = P.edition; n = P.n; m = P.m; p = P.p; e = i; start = P.start; line = P.line }

-- STARTS

-- the first i starts are entered, and 5 does not apply to them
pub record StartsRead (P : Plan) (set : ℕ) : Type 0 where
  pub set_is : set ≡ set_of P.n (is_start P)
  pub on : start_off P ≡ false

-- a number with the members of p below n
is_set : (n : ℕ) (p : ℕ → Bool) (r : ℕ) → ((t : ℕ) → has r t ≡ (ltb t n && p t)) → r ≡ set_of n p
is_set n p r f = same_members r (set_of n p) (λ t. f t ∙ sym (has_set_of n p t))

pub starts_none : (P : Plan) → StartsRead (starts_to 0 P) 0
unfolding any
starts_none P = record { set_is = is_set P.n _ 0 (λ t. rw (has_empty, and-false)); on = refl }

module _ (P : Plan) {i set : ℕ} (w : StartsRead (starts_to i P) set) {s : ℕ} (is : s ≡ P.start i) where
  -- a start that is a state is there already if it is one of those before
  there_is : s < P.n → has set s ≡ any i (λ j. eqb (P.start j) (P.start i))
  there_is h = rw (w.set_is, has_set_of, lt-ltb s P.n h, is)

  -- 5: it is no state, or there already
  pub starts_high : i < P.p → P.n ≤ s → start_off P ≡ true
  starts_high g h = or_left (start_high P) _ (any_in P.p (λ i. leb P.n (P.start i)) i g (rw is at (le-leb P.n s h)))

  pub starts_again : i < P.p → s < P.n → has set s ≡ true → start_off P ≡ true
  starts_again g h e =
      or_right (start_high P) _ (any_in P.p (λ j. any j (λ i. eqb (P.start i) (P.start j))) i g (sym (there_is h) ∙ e))

  module _ (states : P.n ≤ 64) (h : s < P.n) (e : has set s ≡ false) where
    on_next : start_off (starts_to (suc i) P) ≡ false
    unfolding any
    on_next =
        let (high, again) = or_none (start_high (starts_to i P)) _ w.on in
        rw (high, again, ← is, lt-leb P.n s h, is, sym (there_is h) ∙ e)

    entered : (t : ℕ) → has (bit_or set ((1 * 2 ^ s) % 2 ^ 64)) t ≡ (ltb t P.n && is_start (starts_to (suc i) P) t)
    unfolding any
    entered t = elim (decided (eqb s t)) [
      | inl d ↦
          let one : s ≡ t = eqb-true s t d in
          rw (has_insert 64 set s t (lt_of_lt_of_le h states), ← is, d, or-true, or-true, lt-ltb t P.n (rw one at h))
      | inr d ↦ rw (has_insert 64 set s t (lt_of_lt_of_le h states), ← is, d, or-false, or-false, w.set_is, has_set_of)
    ]

    pub starts_next : StartsRead (starts_to (i + 1) P) (bit_or set ((1 * 2 ^ s) % 2 ^ 64))
    starts_next = rw add-one (record { set_is = is_set P.n _ _ entered; on = on_next })

-- LINES

pub lines_none : (P : Plan) (party : ℕ) {sets : List ℕ} → Blank max_sets sets
    → LinesRead (lines_to 0 P) party sets false (record { twice = false; highest = 0 })
unfolding any
lines_none P party b = record {
  size = b.long;
  below = λ j h. rw b.zero (pow_pos P.n);
  edges = λ q a t h g k. rw (b.zero, has_empty);
  off_is = refl;
  twice_is = λ _. refl;
  none_higher = λ i h. absurd (omega arith);
  high_is = refl;
}

-- the loop's test of a line's numbers, and of whether it is passed over; the set with a line in it
abbrev pub off_test : Plan → Line → Bool
off_test P l = (leb P.n l.from || leb P.m l.letter) || leb P.n l.to

abbrev pub passed_over : Plan → ℕ → Line → Bool
passed_over P party l = off_test P l || not (eqb l.party party)

abbrev line_place : Plan → Line → ℕ
line_place P l = place P.m l.from l.letter

abbrev with_line : Plan → Line → List ℕ → List ℕ
with_line P l sets = set sets (line_place P l) (bit_or (get_or sets (line_place P l) 0) ((1 * 2 ^ l.to) % 2 ^ 64))

-- the set stays the same with the line in it
abbrev there_already : Plan → Line → List ℕ → Bool
there_already P l sets = eqb (bit_or (get_or sets (line_place P l) 0) ((1 * 2 ^ l.to) % 2 ^ 64)) (get_or sets (line_place P l) 0)

pub off_test_lem : (P : Plan) (l : Line) → off_test P l ≡ not (line_fits P l)
off_test_lem P l = simp (not_and, not_ltb, or_assoc)

line_fits_lem : (P : Plan) (l : Line) → off_test P l ≡ false → (l.from < P.n) × (l.letter < P.m) × (l.to < P.n)
line_fits_lem P l e =
    let (e, c) = or_none (leb P.n l.from || leb P.m l.letter) _ e in
    let (a, b) = or_none (leb P.n l.from) _ e in
    (leb-false _ _ a, leb-false _ _ b, leb-false _ _ c)

-- a sum is above 0 if one of its parts is
above_sum : (a b : ℕ) → ltb 0 (a + b) ≡ (ltb 0 a || ltb 0 b)
above_sum a b = same_test _ _
    (λ e. elim (decided (ltb 0 a)) [
      | inl d ↦ rw d
      | inr d ↦ rw (d, lt-ltb 0 b (omega (arith, ltb-true 0 (a + b) e, ltb-false 0 a d)))
    ])
    (λ e. lt-ltb 0 (a + b) (elim (decided (ltb 0 a)) [
      | inl d ↦ omega (arith, ltb-true 0 a d)
      | inr d ↦ omega (arith, ltb-true 0 b (rw d at e))
    ]))

-- the larger of two is above a number if one of them is
above_max : (c a b : ℕ) → ltb c (max a b) ≡ (ltb c a || ltb c b)
above_max c a b = same_test _ _
    (λ e. elim (decided (ltb c a)) [
      | inl d ↦ rw d
      | inr d ↦ rw (d, lt-ltb c b (omega (arith, ltb-true c (max a b) e, ltb-false c a d)))
    ])
    (λ e. lt-ltb c (max a b) (elim (decided (ltb c a)) [
      | inl d ↦ omega (arith, ltb-true c a d)
      | inr d ↦ omega (arith, ltb-true c b (rw d at e))
    ]))

module _ (P : Plan) (party : ℕ) (states : P.n ≤ 64) (letters : P.m ≤ 32) {i : ℕ} {sets : List ℕ} {off again : Bool} {highest : ℕ}
    (w : LinesRead (lines_to i P) party sets off (record { twice = again; highest = highest })) where
  abbrev l : Line
  l = P.line i

  next_off : (off || off_test P l) ≡ line_off (lines_to (suc i) P)
  unfolding any
  next_off = rw (w.off_is, off_test_lem P l)

  next_higher : (j : ℕ) → j < suc i → (P.line j).party ≤ max highest l.party
  next_higher j h = elim (ℕ_discrete j i) [ yes e ↦ rw e (omega arith) | no e ↦ omega (arith, w.none_higher j (omega arith)) ]

  next_high : ltb max_party (max highest l.party) ≡ party_high (lines_to (suc i) P)
  unfolding any
  next_high = rw (above_max, w.high_is)

  -- a line with a number off, or of another party, is not entered
  lines_over : passed_over P party l ≡ true
      → LinesRead (lines_to (i + 1) P) party sets (off || off_test P l) (record { twice = again; highest = max highest l.party })
  unfolding any
  lines_over e = rw add-one (record {
    size = w.size;
    below = w.below;
    edges = λ q a t h g k. rw (w.edges q a t h g k, not_so _ (nowhere q a t h g k), or-false);
    off_is = next_off;
    twice_is = λ z.
        let (x, y) = or_none off _ z in
        let other : eqb l.party party ≡ false = not-true _ (rw y at e) in
        rw (w.twice_is x, other, any_none i (λ _. false) (λ _ _. refl), or-false);
    none_higher = next_higher;
    high_is = next_high;
  })
    where
      nowhere : (q a t : ℕ) → q < P.n → a < P.m → t < P.n → ¬ (says l q a t party ≡ true)
      nowhere q a t h g k d =
          let (x, y, z, p) = says_is l q a t party d in
          true≢false (sym e ∙ rw (x, y, z, lt-leb P.n q h, lt-leb P.m a g, lt-leb P.n t k, eq-eqb l.party party p))

  module _ (e : passed_over P party l ≡ false) where
    in_range : off_test P l ≡ false
    in_range = (or_none (off_test P l) _ e).0

    its_party : eqb l.party party ≡ true
    its_party = not-false _ (or_none (off_test P l) _ e).1

    fits : (l.from < P.n) × (l.letter < P.m) × (l.to < P.n)
    fits = line_fits_lem P l in_range

    among : line_place P l < P.n * P.m
    among = place_lt P.n P.m _ _ fits.0 fits.1

    -- the place is one of the sets, and the state one of its bits
    place_in : (line_place P l < 2048) × (l.to < 64)
    place_in = (lt_of_lt_of_le among (size_le states letters), lt_of_lt_of_le fits.2 states)

    inside : line_place P l < length sets
    inside = rw w.size place_in.0

    next_below : (j : ℕ) → j < P.n * P.m → get_or (with_line P l sets) j 0 < 2 ^ P.n
    next_below j h = elim (ℕ_discrete j (line_place P l)) [
      | yes e ↦ rw (e, get_or-set_same sets (line_place P l) _ 0 inside, shl_one 64 l.to place_in.1)
          (or_lt P.n _ _ (w.below _ among) (pow-lt fits.2))
      | no e ↦ rw (get_or-set_other sets _ j _ 0 e) (w.below j h)
    ]

    next_edges : (q a t : ℕ) → q < P.n → a < P.m → t < P.n
        → has (get_or (with_line P l sets) (place P.m q a) 0) t ≡ ((semiautomaton (lines_to i P) party).edge q a t || says l q a t party)
    next_edges q a t h g k = elim (ℕ_discrete (place P.m q a) (line_place P l)) [
      | yes e ↦
          let (x, y) = place_same P.m q a l.from l.letter g fits.1 e in
          rw (
            x,
            y,
            get_or-set_same sets (line_place P l) _ 0 inside,
            has_insert 64 _ _ t place_in.1,
            w.edges l.from l.letter t fits.0 fits.1 k,
            eq-eqb l.from l.from refl,
            eq-eqb l.letter l.letter refl,
            its_party,
            and-true,
          )
      | no e ↦
          let other : says l q a t party ≡ false = not_so _ (λ d. let (x, y, _, _) = says_is l q a t party d in e (rw (x, y))) in
          rw (get_or-set_other sets _ (place P.m q a) _ 0 e, w.edges q a t h g k, other, or-false)
    ]

    lines_next : LinesRead (lines_to (i + 1) P) party (with_line P l sets) (off || off_test P l) (record { twice = again || there_already P l sets; highest = max highest l.party })
    unfolding any
    lines_next = rw add-one (record {
      size = length-set sets _ _ ∙ w.size;
      below = next_below;
      edges = next_edges;
      off_is = next_off;
      twice_is = λ z.
          rw (
            w.twice_is (or_none off _ z).0,
            same_with _ l.to place_in.1,
            w.edges _ _ l.to fits.0 fits.1 fits.2,
            its_party,
            eqb-true l.party party its_party,
          );
      none_higher = next_higher;
      high_is = next_high;
    })

-- .. and of the line as it is read
module _ (P : Plan) (party : ℕ) (states : P.n ≤ 64) (letters : P.m ≤ 32) {i : ℕ} {sets : List ℕ} {off again : Bool} {highest : ℕ}
    (w : LinesRead (lines_to i P) party sets off (record { twice = again; highest = highest }))
    {l : Line} (is : l ≡ P.line i) {high : ℕ} (larger : high ≡ max highest l.party) where
  pub read_over : passed_over P party l ≡ true
      → LinesRead (lines_to (i + 1) P) party sets (off || off_test P l) (record { twice = again; highest = high })
  read_over e = rw (larger, is) (lines_over P party states letters w (rw is at e))

  module _ (e : passed_over P party l ≡ false) where
    pub read_place : (line_place P l < 2048) × (l.to < 64)
    read_place = rw is (place_in P party states letters w (rw is at e))

    pub read_next : LinesRead (lines_to (i + 1) P) party (with_line P l sets) (off || off_test P l) (record { twice = again || there_already P l sets; highest = high })
    read_next = rw (larger, is) (lines_next P party states letters w (rw is at e))

-- .. with so many of their numbers off; where none is, all is entered. What a line that is off has entered does not matter
pub record ReadOn (P : Plan) (party : ℕ) (sets : List ℕ) (off : ℕ) (r : Lines) : Type 0 where
  pub few : off ≤ 3 * P.e
  pub off_is : ltb 0 off ≡ line_off P
  pub entered : off ≡ 0 → LinesRead P party sets false r

pub read_none : (P : Plan) (party : ℕ) {sets : List ℕ} → Blank max_sets sets
    → ReadOn (lines_to 0 P) party sets 0 (record { twice = false; highest = 0 })
unfolding any
read_none P party b = record { few = omega arith; off_is = refl; entered = λ _. lines_none P party b }

-- where no line is off, a line is entered or passed over as its party is
module _ (P : Plan) (party : ℕ) (states : P.n ≤ 64) (letters : P.m ≤ 32) {i : ℕ} {sets new : List ℕ} {again there : Bool} {highest : ℕ}
    (w : LinesRead (lines_to i P) party sets false (record { twice = again; highest = highest }))
    {l : Line} (is : l ≡ P.line i) {high : ℕ} (larger : high ≡ max highest l.party) (on : off_test P l ≡ false)
    (entered : LineEntered P.m party l sets new there) where
  abbrev Next : Type 0
  Next = LinesRead (lines_to (i + 1) P) party new false (record { twice = again || there; highest = high })

  next_over : l.party ≢ party → Next
  next_over n =
      let (same, none) = entered.of_another n in
      rw (same, none, or-false) (rw on at (read_over P party states letters w is larger (rw (on, ne_eqb l.party party n))))

  next_in : l.party ≡ party → Next
  next_in e =
      let mine : passed_over P party l ≡ false = rw (on, eq-eqb l.party party e) in
      let (at, bit) = read_place P party states letters w is larger mine in
      let (put, was) = entered.of_party at bit e in
      rw (put, was) (rw (on, same_with _ l.to bit, shl_one 64 l.to bit) at (read_next P party states letters w is larger mine))

  pub entered_next : Next
  entered_next = elim (ℕ_discrete l.party party) [ yes e ↦ next_in e | no n ↦ next_over n ]

module _ (P : Plan) (party : ℕ) (states : P.n ≤ 64) (letters : P.m ≤ 32) {i : ℕ} {sets new : List ℕ} {off count : ℕ} {again there : Bool}
    {highest : ℕ} (w : ReadOn (lines_to i P) party sets off (record { twice = again; highest = highest }))
    {l : Line} (is : l ≡ P.line i) {high : ℕ} (larger : high ≡ max highest l.party) (counted : NumbersOff P.n P.m l count) where
  pub read_on : LineEntered P.m party l sets new there
      → ReadOn (lines_to (i + 1) P) party new (off + count) (record { twice = again || there; highest = high })
  unfolding any
  read_on put = record {
    few = omega (arith, w.few, counted.few);
    off_is = rw add-one (above_sum off count ∙ rw (w.off_is, counted.some, is, off_test_lem P (P.line i)));
    entered = λ z.
        let none : count ≡ 0 = omega (arith, z) in
        entered_next P party states letters (w.entered (omega (arith, z))) is larger (rw none at (sym counted.some)) put;
  }

-- LINES OF ANOTHER PARTY, where 6 does not apply: they are entered too, and no highest party is kept
pub record Sought (P : Plan) (party : ℕ) (sets : List ℕ) (again : Bool) : Type 0 where
  pub highest : ℕ
  pub entered : LinesRead P party sets false (record { twice = again; highest = highest })

pub sought_none : (P : Plan) (party : ℕ) {sets : List ℕ} → Blank max_sets sets → Sought (lines_to 0 P) party sets false
sought_none P party b = record { highest = 0; entered = lines_none P party b }

module _ (P : Plan) (party : ℕ) (states : P.n ≤ 64) (letters : P.m ≤ 32) (none-off : line_off P ≡ false) {i : ℕ} (g : i < P.e)
    {sets : List ℕ} {again : Bool} (s : Sought (lines_to i P) party sets again) {l : Line} (is : l ≡ P.line i) where
  on_plan : off_test P l ≡ false
  on_plan = rw is (off_test_lem P (P.line i) ∙ any_not P.e (λ i. not (line_fits P (P.line i))) none-off i g)

  pub sought_over : l.party ≢ party → Sought (lines_to (i + 1) P) party sets again
  sought_over n = record {
    highest = max s.highest l.party;
    entered = rw on_plan at (read_over P party states letters s.entered is refl (rw (on_plan, ne_eqb l.party party n)));
  }

  pub sought_next : {new : List ℕ} {there : Bool} → LineEntered P.m party l sets new there → Sought (lines_to (i + 1) P) party new (again || there)
  sought_next put = record {
    highest = max s.highest l.party;
    entered = entered_next P party states letters s.entered is refl on_plan put;
  }
