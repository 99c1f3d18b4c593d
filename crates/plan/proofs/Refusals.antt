-- Refusals 1 to 7 and 16 in their order, and what holds of a plan to which none of them applies.
-- Assumes nothing.
use Prim.Native.Nat.{ℕ, ◌*◌, ◌≤◌, ◌<◌}
use mathlib.Core.Bool.{Bool, true, false, not, cond, and-false}
use mathlib.Core.Path.{◌≡◌, refl, sym}
use mathlib.Core.Logic.{◌↔◌}
use mathlib.Core.List.{List, [], ◌∷◌, ◌++◌}
use native.Mathlib.Omega.{arith}
use lib.Dec.{ltb, leb}
use lib.ListN.{length}
use borrow.Author.Tests.{lt-ltb, ltb-false, leb-true, eqb-true, not-false}
use Rattle.bitset.proofs.Tests.{and_out, or_none}
use Rattle.semiautomata.specs.Semiautomaton.{Within}
use Rattle.refusals.specs.Checks.{Check, within, first_of, Numbered}
use Rattle.refusals.specs.Groups.{last_refusal}
use Rattle.refusals.specs.Named.{number_of}
use Rattle.refusals.specs.declared.Refusal.{Refusal}
use Rattle.refusals.proofs.First.{Passed, first_passed, first_behind, first_before, first_both, first_other}
use Rattle.plan.specs.declared.Header.{Header}
use Rattle.plan.specs.Plan.{count_off, start_high, start_off, line_off, line_twice, party_high, party_off}
use Rattle.semiautomata.specs.Sizes.{Sized}
use Rattle.plan.specs.Asked.{refusal_of, Passes, Proper}
use Rattle.plan.specs.Bytes.{header_of, line_width, parsed, meaning, placed, header_checks, part_checks, plan_checks}
use Rattle.plan.specs.Bytes.{unnamed, asked_checks, asked, refusal, WellFormed}
use Rattle.plan.specs.Loading.{Sound}
use Rattle.plan.proofs.Plan.{plan_within}

-- WHERE 1 TO 4 DO NOT APPLY

-- the ranges of the counts
pub record InRange (n m p e : ℕ) : Type 0 where
  pub n_low : 1 ≤ n
  pub n_high : n ≤ 64
  pub m_low : 1 ≤ m
  pub m_high : m ≤ 32
  pub p_high : p ≤ n
  pub e_high : e ≤ 4096

in_range : (n m p e : ℕ) → count_off n m p e ≡ false → InRange n m p e
in_range n m p e off =
    let (a, off) = or_none (not (within 1 64 n)) _ off in
    let (b, off) = or_none (not (within 1 32 m)) _ off in
    let (c, d) = or_none (ltb n p) _ off in
    let (a, a') = and_out (leb 1 n) _ (not-false _ a) in
    let (b, b') = and_out (leb 1 m) _ (not-false _ b) in
    record {
      n_low = leb-true _ _ a;
      n_high = leb-true _ _ a';
      m_low = leb-true _ _ b;
      m_high = leb-true _ _ b';
      p_high = ltb-false _ _ c;
      e_high = ltb-false _ _ d;
    }

module _ (plan : List ℕ) (h : Header) where
  header_passed : Passed (header_checks (length plan) h) → InRange h.n h.m h.p h.e × Sound plan h
  header_passed (a, (_, (counts, (parts, _)))) =
      let total : h.total ≡ length plan = eqb-true _ _ (not-false _ (or_none (ltb (length plan) 16) _ a).1) in
      let (s, parts) = or_none (not (placed h.total h.starts h.p)) _ parts in
      let (l, _) = or_none (not (placed h.total h.lines (line_width h.edition * h.e))) _ parts in
      let range = in_range _ _ _ _ counts in (
        range,
        record {
          states = range.n_high;
          letters = range.m_high;
          starts_end = rw (← total) (leb-true _ _ (and_out (leb 16 h.starts) _ (not-false _ s)).1);
          lines_end = rw (← total) (leb-true _ _ (and_out (leb 16 h.lines) _ (not-false _ l)).1);
        },
      )

  pub header_clear : first_of (header_checks (length plan) h) ≡ 0 → InRange h.n h.m h.p h.e × Sound plan h
  header_clear clear = header_passed (first_passed 4 (header_checks (length plan) h) refl clear)

-- THE FIRST THAT APPLIES

-- a refusal has a number
pub number_some : (r : Refusal) → ¬ (number_of r ≡ 0)
number_some r = grind arith

pub plan_numbered : (plan : List ℕ) → Numbered last_refusal (plan_checks plan)
unfolding plan_checks
plan_numbered plan = refl

module _ (plan : List ℕ) (party : ℕ) where
  -- 16 of the party that is named
  abbrev pub named : Check
  named = record { number = 16; applies = party_off (header_of plan).edition party }

  abbrev first : ℕ
  first = first_of (header_checks (length plan) (header_of plan))

  pub refused_short : length plan < 16 → 1 ≡ refusal_of (asked plan party)
  unfolding refusal_of plan_checks asked_checks
  refused_short h = rw (lt-ltb (length plan) 16 h)

  pub refused_header : ¬ (first ≡ 0) → first ≡ refusal_of (asked plan party)
  unfolding refusal_of plan_checks asked_checks
  refused_header n = sym (first_before (header_checks (length plan) (header_of plan)) (part_checks (parsed plan) ++ (named ∷ [])) n)

  -- where 1 to 4 do not apply, 5 to 7 and 16 are what is left
  pub refused_parts : first ≡ 0 → first_of (part_checks (parsed plan) ++ (named ∷ [])) ≡ refusal_of (asked plan party)
  unfolding refusal_of plan_checks asked_checks
  refused_parts z =
      let h = header_checks (length plan) (header_of plan) in
      sym (first_behind 4 h (part_checks (parsed plan) ++ (named ∷ [])) refl z)

-- WHERE NONE APPLIES

module _ (plan : List ℕ) (w : WellFormed plan) where
  pub well_formed_clear : Passed (plan_checks plan)
  unfolding refusal_of
  well_formed_clear = first_passed last_refusal (plan_checks plan) (plan_numbered plan) w

  in_header : InRange (header_of plan).n (header_of plan).m (header_of plan).p (header_of plan).e × Sound plan (header_of plan)
  unfolding plan_checks
  in_header = let (a, (b, (c, (d, _)))) = well_formed_clear in header_passed plan (header_of plan) (a, (b, (c, (d, tt))))

  pub well_formed_range : InRange (header_of plan).n (header_of plan).m (header_of plan).p (header_of plan).e
  well_formed_range = in_header.0

  -- the parts lie within the bytes
  pub well_formed_sound : Sound plan (header_of plan)
  well_formed_sound = in_header.1

  pub well_formed_long : 16 ≤ length plan
  unfolding plan_checks
  well_formed_long = let (a, _) = well_formed_clear in ltb-false _ _ (or_none (ltb (length plan) 16) _ a).0

  -- no start is off, no line is off, no line stands twice, no party is above 7
  pub well_formed_parts : (start_off (parsed plan) ≡ false) × (line_off (parsed plan) ≡ false) × (line_twice (parsed plan) ≡ false)
      × (party_high (parsed plan) ≡ false)
  unfolding plan_checks
  well_formed_parts =
      let (_, (_, (_, (_, (starts, (lines, (again, (high, _)))))))) = well_formed_clear in
      (starts, lines, again, high)

  pub well_formed_within : (party : ℕ) → Within (meaning plan party)
  well_formed_within =
      let (starts, lines, _, _) = well_formed_parts in
      plan_within (parsed plan) (or_none (start_high (parsed plan)) _ starts).0 lines

  pub well_formed_sized : (party : ℕ) → Sized (meaning plan party)
  well_formed_sized party = let r = well_formed_range in record {
    n_low = r.n_low;
    n_high = r.n_high;
    m_low = r.m_low;
    m_high = r.m_high;
    within = well_formed_within party;
  }

-- WHAT CALLS COUNT ON

plan_other : (plan : List ℕ) → ¬ (refusal plan ≡ 15)
unfolding refusal_of plan_checks
plan_other plan = first_other 15 (λ e. omega arith) (plan_checks plan) refl

pub unnamed_proper : (plan : List ℕ) → Proper (unnamed plan)
unnamed_proper plan = record { numbered = plan_numbered plan; other = plan_other plan; sized = λ w. well_formed_sized plan w 0 }

module _ (plan : List ℕ) (party : ℕ) where
  -- a party is asked for of a well-formed plan, and one that may be named there
  pub asked_passes : Passes (asked plan party) ↔ (WellFormed plan × (party_off (header_of plan).edition party ≡ false))
  unfolding refusal_of asked_checks
  asked_passes =
      let (apart, both) = first_both last_refusal (plan_checks plan) (named plan party ∷ []) (plan_numbered plan) in
      (λ w. let (a, b) = apart w in (a, none (named plan party).applies b), λ (a, b). both (a, rw b))
    where
      none : (b : Bool) → ◌≡◌ {A = ℕ} (cond b 16 0) 0 → b ≡ false
      none true z = absurd (omega arith)
      none false z = refl

  asked_other : ¬ (refusal_of (asked plan party) ≡ 15)
  unfolding refusal_of plan_checks asked_checks
  asked_other = first_other 15 (λ e. omega arith) (asked_checks plan party) refl

  asked_numbered : Numbered last_refusal (asked_checks plan party)
  unfolding plan_checks asked_checks
  asked_numbered = refl

  pub asked_proper : Proper (asked plan party)
  asked_proper = record {
    numbered = asked_numbered;
    other = asked_other;
    sized = λ w. well_formed_sized plan (asked_passes.0 w).0 party;
  }

-- party 0 may be named for every plan
pub asked_zero : (plan : List ℕ) → refusal_of (asked plan 0) ≡ refusal plan
unfolding refusal_of asked_checks
asked_zero plan = rw (and-false) (go (plan_checks plan))
  where
    go : (cs : List Check) → first_of (cs ++ (record { number = 16; applies = false } ∷ [])) ≡ first_of cs
    go [] = refl
    go (c ∷ cs) = rw (go cs)
