-- What lines say, and that a plan whose starts and lines have their numbers below their counts means a semiautomaton with nothing
-- outside its states and letters.
-- Assumes nothing.
use Prim.Native.Nat.{ℕ, ◌<◌}
use mathlib.Core.Bool.{true, false, not}
use mathlib.Core.Path.{◌≡◌, refl}
use native.Mathlib.Omega.{arith}
use lib.Dec.{eqb, ltb, leb}
use borrow.Author.Tests.{ltb-true, leb-false, eqb-true, eq-eqb, not-false}
use Rattle.bitset.proofs.Tests.{and_out}
use Rattle.bitset.proofs.Below.{with_any, any_not}
use Rattle.semiautomata.specs.Semiautomaton.{Within}
use Rattle.plan.specs.declared.Line.{Line}
use Rattle.plan.specs.Plan.{Plan, says, same_line, start_high, line_off, line_fits, semiautomaton}

-- what a line says is its numbers
pub says_is : (l : Line) (q a t party : ℕ) → says l q a t party ≡ true
    → (l.from ≡ q) × (l.letter ≡ a) × (l.to ≡ t) × (l.party ≡ party)
says_is l q a t party d =
    let (x, d) = and_out (eqb l.from q) _ d in
    let (y, d) = and_out (eqb l.letter a) _ d in
    let (z, w) = and_out (eqb l.to t) _ d in
    (eqb-true l.from q x, eqb-true l.letter a y, eqb-true l.to t z, eqb-true l.party party w)

-- a line is the same as itself, and as no other
pub line_same : (l : Line) → same_line l l ≡ true
line_same l = rw (eq-eqb l.from _ refl, eq-eqb l.letter _ refl, eq-eqb l.to _ refl, eq-eqb l.party _ refl)

pub same_line_lem : (l k : Line) → same_line l k ≡ true → l ≡ k
same_line_lem l k e = let (from, letter, to, party) = says_is l k.from k.letter k.to k.party e in
    λ i. record { from = from i; letter = letter i; to = to i; party = party i }

module _ (P : Plan) (starts : start_high P ≡ false) (lines : line_off P ≡ false) where
  start_lt : (i : ℕ) → i < P.p → P.start i < P.n
  start_lt i h = leb-false P.n (P.start i) (any_not P.p (λ i. leb P.n (P.start i)) starts i h)

  line_fits_lem : (i : ℕ) → i < P.e → line_fits P (P.line i) ≡ true
  line_fits_lem i h = not-false _ (any_not P.e (λ i. not (line_fits P (P.line i))) lines i h)

  edge_fits : (party s a t : ℕ) → (semiautomaton P party).edge s a t ≡ true → (s < P.n) × (a < P.m) × (t < P.n)
  edge_fits party s a t = with_any _ _ λ i h q.
      let l = P.line i in
      let (p₁, p') = and_out (ltb l.from P.n) _ (line_fits_lem i h) in
      let (p₂, p₃) = and_out (ltb l.letter P.m) _ p' in
      let (from, letter, to, _) = says_is l s a t party q in
      omega (arith, ltb-true)

  pub plan_within : (party : ℕ) → Within (semiautomaton P party)
  plan_within party = record {
    initial_lt = λ s. with_any _ _ λ i h q. omega (arith, start_lt i h, eqb-true (P.start i) s q);
    from_lt = λ s a t e. (edge_fits party s a t e).0;
    letter_lt = λ s a t e. (edge_fits party s a t e).1;
    to_lt = λ s a t e. (edge_fits party s a t e).2;
  }
