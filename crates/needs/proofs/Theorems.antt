-- The theorems of specs/Theorems.antt.
-- Assumes nothing.
use Prim.Native.Nat.{ℕ, ◌-◌, ◌*◌, ◌/◌, ◌≤◌, ◌<◌}
use mathlib.Core.Bool.{true, false, false≢true}
use mathlib.Core.Option.{some}
use mathlib.Core.Path.{◌≡◌, refl, sym, ◌∙◌, ap, ap₂}
use mathlib.Core.Logic.{◌↔◌, inl, inr}
use mathlib.Core.List.{List}
use native.Mathlib.Decide.{ℕ_discrete}
use native.Mathlib.Nat.{mul-le-mul}
use native.Mathlib.Omega.{arith}
use lib.ListN.{length, get_or, take}
use lib.Seq.{take-append_seam, ext_get_or}
use borrow.Author.Tests.{le-ltb}
use Rattle.semiautomata.specs.Semiautomaton.{Semiautomaton, Within}
use Rattle.semiautomata.specs.Sizes.{Sized, max_states, max_lookahead, endless, unmeasured}
use Rattle.semiautomata.specs.Predictability.{Critical, initial, fork, member, named, Counts, Need}
use Rattle.semiautomata.specs.Successors.{place}
use Rattle.semiautomata.proofs.Shares.{member_lt, need_unique, lookahead_unique, lookahead_predicts}
use Rattle.semiautomata.proofs.Bound.{need_bound}
use Rattle.semiautomata.proofs.Decide.{witness_endless}
use Rattle.semiautomata.proofs.Places.{place_same}
use Rattle.refusals.specs.Outcomes.{Outcome, answered, refused}
use Rattle.plan.specs.Asked.{Asked, Passes, Proper}
use Rattle.plan.proofs.Asked.{clear_passes, refused_passing}
use Rattle.slices.specs.Copying.{at_front}
use Rattle.table.proofs.Fitness.{pairs_le}
use Rattle.lookahead.specs.declared.Evidence.{Evidence}
use Rattle.prepare.specs.declared.Unprepared.TheVariants.{Unpredictable}
use Rattle.prepare.specs.Preparing.{LooksAhead}
use Rattle.prepare.specs.Theorems.{EitherCall}
use Rattle.prepare.proofs.Refusals.{count_clear, prepare_clear}
use Rattle.prepare.proofs.Theorems.{theorems as preparing, never}
use Rattle.std.specs.Prelude.{Result, Ok, Err}
use Rattle.refusals.specs.Named.{outcome_of}
use Rattle.refusals.specs.declared.Refusal.{Refusal}
use Rattle.needs.specs.Needs.{Says, Of, place_of, entries, TellsNeeds, largest, NeedsOf}
use Rattle.needs.specs.Theorems.{LookedAhead, SomeEndless, Theorems, Met}
use Rattle.needs.proofs.Largest.{each_place, in_numbers_lem, member_of, endless_at, lookahead_largest, some_endless}
use Rattle.needs.proofs.Largest.{unpredictable_endless}

-- EACH NUMBER IS FIXED

says_unique : {S : Semiautomaton} {T : Critical} {v w : ℕ} → Says S T v → Says S T w → v ≡ w
says_unique {S} {T} {v} {w} a b = elim (ℕ_discrete v unmeasured) [
  | yes e ↦ e ∙ sym (b.unmeasured_is.1 (a.unmeasured_is.0 e))
  | no x ↦ elim (ℕ_discrete v endless) [
    | yes e ↦ e ∙ sym (b.endless_is.1 (a.endless_is.0 e))
    | no y ↦
        let (M, d) = a.need_is x y in
        need_unique d (b.need_is (λ e. b.unmeasured_is.0 e M) (λ e. (b.endless_is.0 e).1 v d.enough)).1
  ]
]

pub tells_unique : {S : Semiautomaton} (xs ys : List ℕ) → TellsNeeds S xs → TellsNeeds S ys → xs ≡ ys
tells_unique {S} xs ys a b = ext_get_or 0 xs ys (a.long ∙ sym b.long) λ i h.
    let (T, o, at) = each_place S i (rw a.long at h) in
    rw at at (says_unique (a.says T o) (b.says T o))

module _ {S : Semiautomaton} (W : Within S) (few : S.n ≤ max_states) {numbers : List ℕ} (t : TellsNeeds S numbers) where
  pub bound : (i : ℕ) → i < length numbers → ¬ (get_or numbers i 0 ≡ unmeasured) → ¬ (get_or numbers i 0 ≡ endless)
      → get_or numbers i 0 ≤ S.n * (S.n - 1) / 2
  bound i h x y =
      let (T, o, at) = each_place S i (rw t.long at h) in
      let d : Need S (member S T) (get_or numbers i 0) = rw at at ((t.says T o).need_is (rw at x) (rw at y)).1 in
      need_bound S W (member S T) (member_lt W T) (get_or numbers i 0) d

  pub most : S.n * (S.n - 1) / 2 ≤ max_lookahead
  most = omega (arith, pairs_le S.n few)

  -- no two states are different
  alone : (T : Critical) → Of S T → Counts S T → (s : ℕ) → ((t : ℕ) → (member S T t ≡ true) ↔ (t ≡ s)) → get_or numbers (place_of S T) 0 ≡ 0
  alone T o c s only =
      let none : Need S (member S T) 0 = record {
        enough = λ h. h.rivals.differ ((only h.s).0 h.rivals.left ∙ sym ((only h.t).0 h.rivals.right));
        least = λ j h. absurd (omega arith);
      } in
      let k = t.says T o in
      need_unique (k.need_is (λ e. k.unmeasured_is.0 e (c, (s, (only s).1 refl))) (λ e. (k.endless_is.0 e).1 0 none.enough)).1 none

  no_starts : ((s : ℕ) → S.initial s ≡ false) → get_or numbers 0 0 ≡ unmeasured
  no_starts f = (t.says initial tt).unmeasured_is.1 (λ (_, (s, e)). false≢true (sym (f s) ∙ e))

-- two sets at one place are one
place_unique : (S : Semiautomaton) (T U : Critical) → Of S T → Of S U → place_of S T ≡ place_of S U → T ≡ U
place_unique S initial initial _ _ e = refl
place_unique S initial (fork r b) _ _ e = absurd (omega arith)
place_unique S (fork q a) initial _ _ e = absurd (omega arith)
place_unique S (fork q a) (fork r b) (_, g) (_, h) e =
    let same : place S.m q a ≡ place S.m r b = omega arith in
    let (x, y) = place_same S.m q a r b g h same in
    ap₂ fork x y

-- OF THE CALLS

module _ (A : Asked) (P : Proper A) where
  -- no refusal before 15 applies
  pub looked : Passes A → (o : Outcome ℕ) → LookedAhead A o → LooksAhead 0 A.means o
  looked w o (inl (a, old, table, old', letters, e, room, room', d)) = rw (e, ← prepare_clear A P w _ room room') d.0
  looked w o (inr (inl (a, old, letters, e, room, d))) = rw (e, ← count_clear A P w room) d.0
  looked w o (inr (inr (r, d, e))) = rw (e, ← w) d.looks_ahead

  module _ (count : ℕ) (old needs : List ℕ) (c : NeedsOf A (Ok count) old needs) where
    pub passes : Passes A
    passes = clear_passes A P _ c.0

    sized : Sized A.means
    sized = P.sized passes

    pub needs_few : count ≤ 2049
    needs_few = omega (arith, c.1.0, mul-le-mul sized.n_high sized.m_high)

    written : TellsNeeds A.means (take count needs)
    written =
        let f = c.1.1 in
        let at_front_lem : take count needs ≡ f.numbers =
        rw (c.1.0 ∙ sym f.tells.long, f.is) (take-append_seam f.numbers _) in
        rw at_front_lem f.tells

    W : Within A.means
    W = sized.within

    largest_k : ¬ SomeEndless (take count needs) → (o : Outcome ℕ) → LooksAhead 0 A.means o → o ≡ answered (largest (take count needs))
    largest_k none (refused r) (inl (e, n)) = absurd (n e)
    largest_k none (refused r) (inr (_, _, u)) = absurd (none (unpredictable_endless W written u))
    largest_k none (answered k) (_, l) = ap answered (lookahead_unique l (lookahead_largest W written none))

    endless_15 : (o : Outcome ℕ) → LooksAhead 0 A.means o → SomeEndless (take count needs) ↔ (o ≡ refused 15)
    endless_15 (refused r) (inl (e, n)) = absurd (n e)
    endless_15 (refused r) (inr (_, e, u)) = ((λ _. ap refused e), λ _. unpredictable_endless W written u)
    endless_15 (answered k) (_, l) = (
      (λ s. absurd (lookahead_predicts l (some_endless W written s))),
      λ e. let z : ◌≡◌ {A = ℕ} 0 1 = cc in absurd (omega arith),
    )

    -- the evidence is a true claim about its set
    evidence_endless : (e : Evidence) (old' letters : List ℕ) → EitherCall A (Err (Unpredictable e)) old' letters
        → (T : Critical) × (named A.means e.state e.letter ≡ some T) × Of A.means T
        × (get_or (take count needs) (place_of A.means T) 0 ≡ endless)
    evidence_endless e old' letters d =
        let k = (never A P d).1.claimed in
        let w = k.witness in (
          k.set,
          k.names,
          member_of W k.set e.low w.s_in,
          endless_at W written k.set (w.counts, (e.low, w.s_in)) (witness_endless A.means _ w),
        )

    theorems : Theorems A (take count needs)
    theorems = record {
      tells = written;
      place_below = in_numbers_lem W written;
      place_unique = place_unique A.means;
      each_place = λ i h. each_place A.means i (rw written.long at h);
      few = omega (arith, written.long, mul-le-mul sized.n_high sized.m_high);
      fixed = λ others t. tells_unique others (take count needs) t written;
      bound = bound W sized.n_high written;
      most = most W sized.n_high written;
      marks_free = (omega arith, omega arith);
      alone = alone W sized.n_high written;
      no_starts = no_starts W sized.n_high written;
      largest_is = lookahead_largest W written;
      endless_is = (some_endless W written, unpredictable_endless W written);
      largest_k = λ none o d. largest_k none o (looked passes o d);
      endless_15 = λ o d. endless_15 o (looked passes o d);
      ready_largest = λ k old' letters d.
          let l = (preparing A P).ready_so k old' letters d in
          let none : ¬ SomeEndless (take count needs) = λ s. lookahead_predicts l (some_endless W written s) in
          (none, lookahead_unique l (lookahead_largest W written none));
      evidence_endless = evidence_endless;
    }

  answers : Passes A → (a : Result ℕ Refusal) (old needs : List ℕ) → entries A.means ≤ length old → NeedsOf A a old needs
      → outcome_of a ≡ answered (entries A.means)
  answers w (Ok c) old needs room (_, (e, _)) = ap answered e
  answers w (Err r) old needs room (e, n, _) =
      absurd (n (e ∙ refused_passing A P w _ ∙ rw (le-ltb (length old) (entries A.means) room)))

  same : (a b : Result ℕ Refusal) (old needs needs' : List ℕ) → NeedsOf A a old needs → NeedsOf A b old needs'
      → (outcome_of a ≡ outcome_of b) × (needs ≡ needs')
  same (Ok c) (Ok d) old needs needs' (_, (x, f)) (_, (y, g)) = (
    ap answered (x ∙ sym y),
    f.is ∙ ap (λ (numbers : List ℕ). at_front numbers old) (tells_unique f.numbers g.numbers f.tells g.tells) ∙ sym g.is,
  )
  same (Ok c) (Err r) old needs needs' (z, _) (e, n, _) = absurd (n (e ∙ z))
  same (Err r) (Ok c) old needs needs' (e, n, _) (z, _) = absurd (n (e ∙ z))
  same (Err r) (Err q) old needs needs' (x, _, e) (y, _, f) = (ap refused (x ∙ sym y), e ∙ sym f)

pub met : Met
met A P = record { answers = answers A P; written = theorems A P; same = same A P }
