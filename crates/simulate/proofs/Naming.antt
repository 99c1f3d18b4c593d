-- What is answered of the critical set that two numbers name.
-- Assumes nothing.
use Rattle.std.specs.Prelude.{Ok, Err}
use Prim.Native.Nat.{ℕ, ◌<◌}
use mathlib.Core.Bool.{true, false, ◌&&◌}
use mathlib.Core.Option.{none}
use mathlib.Core.Path.{◌≡◌, sym, ◌∙◌, ap, subst, fun_ext}
use mathlib.Core.List.{List}
use native.Mathlib.Omega.{arith}
use lib.Dec.{eqb}
use borrow.Author.Tests.{lt-ltb}
use Rattle.bitset.specs.Numbers.{has}
use Rattle.bitset.proofs.Tests.{or_right}
use Rattle.semiautomata.specs.Semiautomaton.{Semiautomaton, Within}
use Rattle.semiautomata.specs.Predictability.{Critical, initial, fork, member, named}
use Rattle.semiautomata.specs.Successors.{set_at}
use Rattle.semiautomata.specs.Means.{means}
use Rattle.semiautomata.specs.declared.successors.Successors.{Successors}
use Rattle.semiautomata.proofs.Selectors.{survivors_in, survivors_out, minimal_in, minimal_out, maximal_in, maximal_out}
use Rattle.semiautomata.proofs.BySets.{edge_is}
use Rattle.semiautomata.proofs.Places.{place_fits}
use Rattle.refusals.specs.declared.Refusal.{Refusal}
use Rattle.refusals.specs.declared.Refusal.TheVariants as refusal
use Rattle.simulate.specs.declared.Verdict.{Verdict}
use Rattle.table.specs.declared.Head.{Head}
use Rattle.table.specs.Table.{letters_of, table_meaning, unfit}
use Rattle.table.specs.Heads.{Headed}
use Rattle.table.proofs.Heads.{head_means, head_fits}
use Rattle.walks.specs.Walking.{letter_off}
use Rattle.simulate.specs.Verdicts.{unnamed, verdict_refusal, Tells, Judges}
use Rattle.simulate.specs.inner.Verdicts.{Computes, Names}
use Rattle.simulate.proofs.Sets.{stands}

member_lt : (S : Semiautomaton) → Within S → (T : Critical) (s : ℕ) → member S T s ≡ true → s < S.n
member_lt S W initial s e = W.initial_lt s e
member_lt S W (fork q a) s e = W.to_lt q a s e

-- the tests say what Definition 2 says
pub tells : (S : Semiautomaton) → Within S → (T : Critical) {w : List ℕ} {v : Verdict} → Computes S (member S T) w v → Tells S T w v
tells S W T {w} k =
    let X = member S T in
    let below = member_lt S W T in
    record {
      survivors = stands S.n _ k.survivors (survivors_out S W X below w)
          (λ x c. (below x c.from_it, survivors_in S W X below w x c));
      minimal = (λ e. minimal_out S W X below w (sym k.minimal ∙ e), λ c. k.minimal ∙ minimal_in S W X below w c);
      nonselected = stands S.n _ k.nonselected (maximal_out S W X below w)
          (λ x c. (below x c.survives.from_it, maximal_in S W X below w x c));
    }

-- WHAT THE NUMBERS NAME

pub names_fork : (x : Successors) (q a : ℕ) {set : ℕ} → (eqb q 255 && eqb a 0) ≡ false → q < x.n → a < x.m
    → set ≡ set_at x.m x.sets.now q a → Names (means x) q a (Ok set)
names_fork x q a o h g e = (
  rw e (place_fits x.fit q a h g),
  fork q a,
  rw (o, lt-ltb q x.n h, lt-ltb a x.m g),
  ap has e ∙ fun_ext (λ t. sym (edge_is x.n x.m x.starts x.sets.now q a t h g)),
)

-- WHAT IS ANSWERED

module _ (table : List ℕ) (q a : ℕ) (w : List ℕ) where
  pub judge_8 : {r : Refusal} → (unfit table ≡ true) × (r ≡ refusal.Table) → Judges table q a w (Err r)
  unfolding verdict_refusal
  judge_8 (e, is) = rw is (rw e, λ z. omega arith, tt)

  module _ {head : Head} (h : Headed table head) where
    pub judge_letter : letter_off head.succ.m w ≡ true → Judges table q a w (Err refusal.Letter)
    unfolding verdict_refusal
    judge_letter e =
        let off = or_right (unnamed (named (table_meaning table) q a)) (letter_off (letters_of table) w) (rw h.m_is at e) in
        (rw (h.sound, off), λ z. omega arith, tt)

    pub judge_none : {r : Refusal} → Names (means head.succ) q a (Err r) → Judges table q a w (Err r)
    unfolding verdict_refusal
    judge_none (e, is) =
        let d : named (table_meaning table) q a ≡ none = subst (λ S. named S q a ≡ none) (head_means h) e in
        rw is (rw (h.sound, d), λ z. omega arith, tt)

    pub judge_told : letter_off head.succ.m w ≡ false → {set : ℕ} → Names (means head.succ) q a (Ok set) → {v : Verdict}
        → Computes (means head.succ) (has set) w v → Judges table q a w (Ok v)
    unfolding verdict_refusal
    judge_told on {set} names {v} k =
        let S = table_meaning table in
        let (_, T, e, s) : Names S q a (Ok set) = subst (λ S. Names S q a (Ok set)) (head_means h) names in
        let k : Computes S (member S T) w v = rw (← s) (subst (λ S. Computes S (has set) w v) (head_means h) k) in (
          rw (h.sound, e, rw h.m_is at on),
          λ U g. let same : T ≡ U = cc in rw (← same) (tells S (head_fits h).within T k),
        )
