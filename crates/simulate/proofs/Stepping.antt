-- What is answered of a step, test by test, and where steps along a word lead.
-- Assumes nothing.
use Rattle.std.specs.Prelude.{Ok, Err}
use Prim.Native.Nat.{ℕ, suc, ◌-◌, ◌/◌, ◌^◌, ◌≤◌, ◌<◌}
use mathlib.Core.Bool.{true, false}
use mathlib.Core.Path.{◌≡◌, refl, sym, ◌∙◌, ap, subst}
use mathlib.Core.List.{List, [], ◌∷◌}
use native.Mathlib.Omega.{arith}
use lib.Dec.{leb, ltb}
use borrow.Author.Tests.{leb-false, lt-leb, le-leb, lt-ltb, le-ltb}
use Rattle.bitset.specs.Sets.{size}
use Rattle.bitset.specs.Numbers.{has, set_of}
use Rattle.bitset.proofs.Tests.{or_right}
use Rattle.bitset.proofs.Bits.{set_of_lt, set_of_has, above_shift}
use Rattle.semiautomata.specs.Walks.{step, reach}
use Rattle.semiautomata.specs.Means.{means}
use Rattle.refusals.specs.declared.Refusal.{Refusal}
use Rattle.refusals.specs.declared.Refusal.TheVariants as refusal
use Rattle.refusals.proofs.First.{passed_first}
use Rattle.table.specs.declared.Head.{Head}
use Rattle.table.specs.Table.{states_of, letters_of, table_meaning, unfit}
use Rattle.table.specs.Heads.{Headed}
use Rattle.table.proofs.Heads.{head_means, head_fits}
use Rattle.walks.specs.declared.Gathered.{Gathered}
use Rattle.walks.specs.Walking.{Letters}
use Rattle.walks.proofs.Letters.{letters_drop}
use Rattle.walks.proofs.Steps.{reach_members}
use Rattle.simulate.specs.Stepping.{step_checks, step_refusal, gathered_of, StepsTo, StepsAlong}

module _ (table : List ℕ) (set a : ℕ) where
  pub step_8 : {r : Refusal} → (unfit table ≡ true) × (r ≡ refusal.Table) → StepsTo table set a (Err r)
  unfolding step_refusal
  step_8 (e, is) = rw is (rw e, λ z. omega arith, tt)

  module _ {head : Head} (h : Headed table head) where
    -- the code's test for a bit n or higher
    high : ltb 1 (set / 2 ^ (head.succ.n - 1)) ≡ leb (2 ^ states_of table) set
    high = let e : suc (head.succ.n - 1) ≡ head.succ.n = omega (arith, h.n_is, (head_fits h).some_state) in
        above_shift (head.succ.n - 1) set ∙ rw (e, h.n_is)

    pub step_12_letter : head.succ.m ≤ a → StepsTo table set a (Err refusal.Letter)
    unfolding step_refusal
    step_12_letter g = (rw (h.sound, le-leb (letters_of table) a (rw h.m_is at g)), λ z. omega arith, tt)

    pub step_12_set : 1 < set / 2 ^ (head.succ.n - 1) → StepsTo table set a (Err refusal.Letter)
    unfolding step_refusal
    step_12_set g =
        let off = or_right (leb (letters_of table) a) _ (sym high ∙ lt-ltb 1 _ g) in (rw (h.sound, off), λ z. omega arith, tt)

    module _ (low : set / 2 ^ (head.succ.n - 1) ≤ 1) where
      below : leb (2 ^ states_of table) set ≡ false
      below = sym high ∙ le-ltb 1 _ low

      pub step_in : set < 2 ^ head.succ.n
      step_in = rw h.n_is (leb-false _ _ below)

      pub step_on : a < head.succ.m → {g : Gathered}
          → (g.set ≡ set_of head.succ.n (step (means head.succ) (has set) a)) × (g.rounds ≡ size head.succ.n (has set))
          → StepsTo table set a (Ok g)
      unfolding step_refusal
      step_on b {g} (e, d) = (
        passed_first (step_checks table set a) (h.sound, (rw (lt-leb (letters_of table) a (rw h.m_is at b), below), tt)),
        subst (λ S. g ≡ gathered_of S set a) (head_means h) (λ i. record { set = e i; rounds = d i }),
      )

-- ALONG A WORD

pub along_is : (table : List ℕ) (set : ℕ) (w : List ℕ) (last : ℕ) → set < 2 ^ states_of table → StepsAlong table set w last
    → last ≡ set_of (states_of table) (reach (table_meaning table) (has set) w)
along_is table set [] last h e = sym e ∙ sym (set_of_has (states_of table) set h)
along_is table set (a ∷ w) last h (g, (z, e), rest) =
    let is = ap (λ (g : Gathered). g.set) e in
    along_is table g.set w last (rw is (set_of_lt _ _)) rest
    ∙ rw is (reach_members (table_meaning table) (step (table_meaning table) (has set) a) w)

-- a fit table, a set of its states and a letter of it are not refused
pub step_passes : (table : List ℕ) (set a : ℕ) → unfit table ≡ false → set < 2 ^ states_of table → a < letters_of table
    → step_refusal table set a ≡ 0
unfolding step_refusal
step_passes table set a fit h b =
    passed_first (step_checks table set a) (fit, (rw (lt-leb (letters_of table) a b, lt-leb (2 ^ states_of table) set h), tt))

pub steps_on : (table : List ℕ) (set : ℕ) (w : List ℕ) → unfit table ≡ false → set < 2 ^ states_of table → Letters (letters_of table) w
    → (last : ℕ) × StepsAlong table set w last
steps_on table set [] fit h l = (set, refl)
steps_on table set (a ∷ w) fit h l =
    let g = gathered_of (table_meaning table) set a in
    let (last, rest) = steps_on table g.set w fit (set_of_lt _ _) (letters_drop 1 l) in
    (last, (g, (step_passes table set a fit h (l.below 0 (omega arith)), refl), rest))
