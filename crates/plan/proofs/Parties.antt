-- The theorems of specs/Parties.antt.
-- Assumes nothing.
use Prim.Native.Nat.{ℕ, zero, suc, ◌≤◌, ◌<◌}
use mathlib.Core.Bool.{true, false, true≢false}
use mathlib.Core.Path.{◌≡◌, refl, sym, ◌∙◌, fun_ext}
use mathlib.Core.Logic.{◌↔◌}
use mathlib.Core.List.{List, [], ◌∷◌}
use native.Mathlib.Omega.{arith}
use lib.Dec.{ltb}
use lib.ListN.{length}
use borrow.Author.Tests.{eqb-true, not-false, ltb-false, le-ltb}
use Rattle.bitset.proofs.Tests.{not_so, or_none}
use Rattle.bitset.proofs.Below.{any_none}
use Rattle.semiautomata.specs.Semiautomaton.{Semiautomaton, Path}
use Rattle.semiautomata.specs.Predictability.{Critical, initial, fork, Counts, Share, Clash, member, Rivals, Lookahead}
use Rattle.plan.specs.Plan.{Plan, semiautomaton, max_party, party_off}
use Rattle.refusals.specs.Groups.{last_refusal}
use Rattle.refusals.proofs.First.{first_behind, first_before}
use Rattle.plan.specs.Asked.{refusal_of, Passes}
use Rattle.plan.specs.Bytes.{header_of, parsed, meaning, plan_checks, asked_checks, asked, refusal, WellFormed}
use Rattle.plan.specs.Parties.{Lineless, Theorems}
use Rattle.plan.proofs.Plan.{says_is}
use Rattle.plan.proofs.Refusals.{plan_numbered, named, asked_passes, asked_zero}

-- WITHOUT LINES

module _ (S : Semiautomaton) (none : (s a t : ℕ) → S.edge s a t ≡ false) where
  no_fork : (q a : ℕ) → ¬ Counts S (fork q a)
  no_fork q a (_, (t, e)) = true≢false (sym e ∙ none q a t)

  -- only the starts count
  starts_enough : (k : ℕ) → ¬ Clash S S.initial k → (T : Critical) → Counts S T → ¬ Clash S (member S T) k
  starts_enough k n initial _ = n
  starts_enough k n (fork q a) counts = absurd (no_fork q a counts)

  one : ((s t : ℕ) → ¬ Rivals S.initial s t) → Lookahead S 0
  one n = record { enough = starts_enough 0 (λ c. n c.s c.t c.rivals); least = λ j h. absurd (omega arith) }

  no_word : (s : ℕ) (w : List ℕ) → length w ≡ 1 → (t : ℕ) → ¬ Path S s w t
  no_word s [] e t p = omega arith
  no_word s (a ∷ w) e t (r, d, _) = true≢false (sym d ∙ none s a r)

  two : (s t : ℕ) → Rivals S.initial s t → Lookahead S 1
  two s t r = record {
    enough = starts_enough 1 (λ c. let d = c.shared in no_word c.s d.word d.long d.left.0 d.left.1);
    least = least;
  }
    where
      least : (j : ℕ) → j < 1 → (T : Critical) × Counts S T × Clash S (member S T) j
      least zero h =
          let shared : Share S 0 s t = record { word = []; long = refl; left = (s, refl); right = (t, refl) } in
          (initial, tt, record { s = s; t = t; rivals = r; shared = shared })
      least (suc j) h = absurd (omega arith)

no_edge : (P : Plan) (party : ℕ) → Lineless P party → (s a t : ℕ) → (semiautomaton P party).edge s a t ≡ false
no_edge P party none s a t =
    any_none P.e _ (λ i h. not_so _ (λ d. let (_, _, _, e) = says_is (P.line i) s a t party d in none i h e))

-- WHICH MAY BE ASKED FOR

module _ (plan : List ℕ) (party : ℕ) where
  passes_1 : (header_of plan).edition ≡ 1 → Passes (asked plan party) ↔ (WellFormed plan × (party ≡ 0))
  passes_1 e =
      let (out, back) = asked_passes plan party in (
        (λ p. let (w, off) = out p in
            (w, eqb-true party 0 (not-false _ (rw e at (or_none (ltb max_party party) _ off).1)))),
        λ (w, z). back (w, rw (z, e)),
      )

  passes_2 : (header_of plan).edition ≡ 2 → Passes (asked plan party) ↔ (WellFormed plan × (party ≤ max_party))
  passes_2 e =
      let (out, back) = asked_passes plan party in (
        (λ p. let (w, off) = out p in (w, ltb-false max_party party (or_none (ltb max_party party) _ off).0)),
        λ (w, few). back (w, rw (e, le-ltb max_party party few)),
      )

  bytes_first : ¬ WellFormed plan → refusal_of (asked plan party) ≡ refusal plan
  unfolding refusal_of asked_checks
  bytes_first n = first_before (plan_checks plan) (named plan party ∷ []) n

  then_16 : WellFormed plan → party_off (header_of plan).edition party ≡ true → refusal_of (asked plan party) ≡ 16
  unfolding refusal_of asked_checks
  then_16 w off = first_behind last_refusal (plan_checks plan) (named plan party ∷ []) (plan_numbered plan) w ∙ rw off

pub theorems : (plan : List ℕ) (party : ℕ) → Theorems plan party
theorems plan party = record {
  passes = asked_passes plan party;
  passes_1 = passes_1 plan party;
  passes_2 = passes_2 plan party;
  bytes_first = bytes_first plan party;
  then_16 = then_16 plan party;
  zero = asked_zero plan;
  alone = λ other a i. record {
    n = a.n i;
    m = a.m i;
    initial = fun_ext a.starts i;
    edge = fun_ext (λ s. fun_ext (λ b. fun_ext (λ t. a.lines s b t))) i;
  };
  no_edge = no_edge (parsed plan) party;
  lineless_single = λ none. one (meaning plan party) (no_edge (parsed plan) party none);
  lineless_several = λ none. two (meaning plan party) (no_edge (parsed plan) party none);
}
