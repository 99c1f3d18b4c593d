-- Bytes that have the parts of a well-formed plan, ascending and without gaps, mean what it means and are well formed.
-- Assumes nothing.
use Prim.Native.Nat.{ℕ, ◌+◌, ◌*◌, ◌<◌}
use mathlib.Core.Bool.{Bool, true, false, not, ◌||◌, and-false}
use mathlib.Core.Path.{◌≡◌, refl, sym, ◌∙◌, ap, subst, fun_ext}
use mathlib.Core.Logic.{inl, inr}
use mathlib.Core.List.{List}
use native.Mathlib.Omega.{arith}
use lib.Dec.{eqb, ltb}
use lib.ListN.{length}
use borrow.Author.Tests.{lt-ltb, le-ltb, le-leb, lt-leb, eqb-true, eq-eqb}
use Rattle.bitset.proofs.Tests.{not_so}
use Rattle.bitset.proofs.Below.{any_in, any_none}
use Rattle.semiautomata.specs.Semiautomaton.{Semiautomaton, Within}
use Rattle.refusals.proofs.First.{passed_first}
use Rattle.plan.specs.declared.Counts.{Counts}
use Rattle.plan.specs.declared.Header.{Header}
use Rattle.plan.specs.declared.Line.{Line}
use Rattle.plan.specs.Plan.{Plan, line, max_party, is_line, semiautomaton, count_off, twice, start_high, start_off}
use Rattle.plan.specs.Plan.{line_off, line_twice, has_parties, party_high}
use Rattle.plan.specs.Asked.{refusal_of}
use Rattle.plan.specs.Bytes.{header_of, line_width, parsed, meaning, misplaced, plan_checks, WellFormed, counts_of}
use Rattle.plan.proofs.Refusals.{well_formed_clear, well_formed_within}
use Rattle.filing.specs.Theorems.{header_in_order, Before, Ascends, SameParts}
use Rattle.plan.proofs.Plan.{same_line_lem, line_same}
use Rattle.filing.proofs.Parties.{parties_few, own_parties, line_party}

-- the parts of a header without gaps lie well
without_gaps : (edition : ℕ) (c : Counts) → misplaced (header_in_order edition c) ≡ false
without_gaps edition c =
    let p = c.p in
    let e = line_width edition * c.e in
    rw (
      le-leb (16 + p) (16 + p + e) (omega arith),
      le-leb 16 (16 + p) (omega arith),
      le-leb (16 + p + e) (16 + p + e) (omega arith),
      le-ltb (16 + p) (16 + p) (omega arith),
      and-false,
      and-false,
    )

before_other : (l k : Line) → Before l k → ¬ (l ≡ k)
before_other l k (inl h) e = let d = ap (λ (l : Line). l.from) e in omega arith
before_other l k (inr (_, inl h)) e = let d = ap (λ (l : Line). l.letter) e in omega arith
before_other l k (inr (_, inr (_, inl h))) e = let d = ap (λ (l : Line). l.to) e in omega arith
before_other l k (inr (_, inr (_, inr (_, h)))) e = let d = ap (λ (l : Line). l.party) e in omega arith

-- no two of c are the same
once : (c : ℕ) (same : ℕ → ℕ → Bool) → ((i j : ℕ) → i < j → j < c → ¬ (same i j ≡ true)) → twice c same ≡ false
once c same f = any_none _ _ (λ j g. any_none _ _ (λ i h. not_so _ (f i j h g)))

-- 5 to 7
module _ (P : Plan) (W : (party : ℕ) → Within (semiautomaton P party)) (A : Ascends P) where
  starts_fit : start_off P ≡ false
  starts_fit =
      let low : start_high P ≡ false =
      any_none _ _ (λ i h. lt-leb _ _ ((W 0).initial_lt (P.start i) (any_in P.p _ i h (eq-eqb (P.start i) _ refl)))) in
      rw low (once _ _ (λ i j h g e. omega (arith, A.starts i j h g, eqb-true (P.start i) (P.start j) e)))

  lines_fit : line_off P ≡ false
  lines_fit = any_none _ _ (λ i h.
      let l = P.line i in
      let e = any_in P.e _ i h (line_same l) in
      let w = W l.party in
      rw (
        lt-ltb l.from _ (w.from_lt _ l.letter l.to e),
        lt-ltb l.letter _ (w.letter_lt l.from _ l.to e),
        lt-ltb l.to _ (w.to_lt l.from l.letter _ e),
      ))

  lines_once : line_twice P ≡ false
  lines_once = once _ _ (λ i j h g e. before_other (P.line i) (P.line j) (A.lines i j h g) (same_line_lem (P.line i) (P.line j) e))

-- the header of a plan's form
abbrev pub in_order_of : List ℕ → Header
in_order_of plan = header_in_order (header_of plan).edition (counts_of (header_of plan))

module _ (plan bytes : List ℕ) (is : header_of bytes ≡ in_order_of plan) (same : SameParts (parsed bytes) (parsed plan)) where
  pub same_meaning : (party : ℕ) → meaning bytes party ≡ meaning plan party
  same_meaning party = λ i. record {
    n = ap (λ (h : Header). h.n) is i;
    m = ap (λ (h : Header). h.m) is i;
    initial = fun_ext same.starts i;
    edge = fun_ext (λ s. fun_ext (λ a. fun_ext (λ t. same.lines (line s a t party)))) i;
  }

  -- 16: a line of the bytes is one of the plan
  parties_low : WellFormed plan → party_high (parsed bytes) ≡ false
  parties_low w = any_none _ _ (λ i h.
      let l = (parsed bytes).line i in
      let of-plan : is_line (parsed plan) l ≡ true = sym (same.lines l) ∙ any_in (parsed bytes).e _ i h (line_same l) in
      let low = parties_few (has_parties (header_of plan).edition) (line_party _ (parsed plan) (own_parties plan w) l of-plan) in
      le-ltb max_party l.party (omega arith))

  pub passes : WellFormed plan → length bytes ≡ (header_of bytes).total → Ascends (parsed bytes) → WellFormed bytes
  unfolding refusal_of plan_checks
  passes w long A =
      let (_, (edition, (counts, _))) = well_formed_clear plan w in
      let W : (party : ℕ) → Within (meaning bytes party) =
      λ party. subst (λ (S : Semiautomaton). Within S) (sym (same_meaning party)) (well_formed_within plan w party) in
      let total = ap (λ (h : Header). h.total) is in
      let c₁ : (ltb (length bytes) 16 || not (eqb (header_of bytes).total (length bytes))) ≡ false =
      rw (le-ltb (length bytes) 16 (omega arith), eq-eqb (header_of bytes).total (length bytes) (sym long)) in
      let c₂ = ap (λ (h : Header). not (eqb h.edition 1 || eqb h.edition 2)) is ∙ edition in
      let c₃ = ap (λ (h : Header). count_off h.n h.m h.p h.e) is ∙ counts in
      let c₄ = ap misplaced is ∙ without_gaps (header_of plan).edition (counts_of (header_of plan)) in
      let c₅ = starts_fit (parsed bytes) W A in
      let c₆ = lines_fit (parsed bytes) W A in
      passed_first (plan_checks bytes) (c₁, (c₂, (c₃, (c₄, (c₅, (c₆, (lines_once (parsed bytes) W A, (parties_low w, tt))))))))
