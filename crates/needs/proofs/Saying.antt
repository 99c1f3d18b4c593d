-- From how long two states live to what the number of a critical set says.
-- Assumes nothing.
use mathlib.Core.Bool.{Bool, true, false≢true}
use mathlib.Core.Path.{◌≡◌, refl, sym, ◌∙◌}
use mathlib.Core.Logic.{inl, inr}
use mathlib.Core.List.{List}
use Prim.Native.Nat.{ℕ, ◌≤◌, ◌<◌}
use native.Mathlib.Decide.{ℕ_discrete}
use native.Mathlib.Omega.{arith}
use Rattle.bitset.specs.Numbers.{has, set_of}
use Rattle.bitset.proofs.Tests.{decided}
use Rattle.bitset.proofs.Below.{any_out}
use Rattle.bitset.proofs.Bits.{has_empty, some_member}
use Rattle.semiautomata.specs.Semiautomaton.{Semiautomaton, Within}
use Rattle.semiautomata.specs.Predictability.{Critical, initial, fork, member, Need}
use Rattle.semiautomata.specs.Access.{accessible}
use Rattle.semiautomata.specs.Successors.{set_at}
use Rattle.semiautomata.specs.Means.{means}
use Rattle.semiautomata.specs.declared.successors.Successors.{Successors}
use Rattle.semiautomata.proofs.Shares.{share_swap, share_shorter, member_lt, clash_ordered}
use Rattle.semiautomata.proofs.Bound.{need_bound}
use Rattle.semiautomata.proofs.BySets.{edge_is}
use Rattle.semiautomata.proofs.Places.{place_fits}
use Rattle.table.proofs.Fitness.{pairs_le}
use Rattle.walks.proofs.Steps.{means_within}
use Rattle.walks.proofs.Reaching.{reached_in, reached_out}
use Rattle.pairs.specs.Lifetimes.{Lifetime, lifetime, Lifetimes}
use Rattle.lookahead.specs.Rivals.{Rivalry}
use Rattle.semiautomata.specs.Sizes.{endless, unmeasured}
use Rattle.needs.specs.Needs.{Measured, NoNeed, Says}
use Rattle.needs.specs.inner.Longest.{LongestLived}
use Rattle.needs.specs.inner.Entering.{Entered}

longest_same : {numbers : List ℕ} {X Y : ℕ → Bool} {r : ℕ} → ((s : ℕ) → Y s ≡ X s) → LongestLived numbers X r → LongestLived numbers Y r
longest_same f k = record {
  few = k.few;
  all = λ ne s t a b. k.all ne s t (sym (f s) ∙ a) (sym (f t) ∙ b);
  some = elim k.some [ inl e ↦ inl e | inr (s, t, a, b, h, is) ↦ inr (s, t, f s ∙ a, f t ∙ b, h, is) ];
}

-- a set that is empty or does not count
pub says_idle : {S : Semiautomaton} {T : Critical} → ¬ Measured S T → Says S T unmeasured
says_idle idle = record {
  unmeasured_is = ((λ _. idle), λ _. refl);
  endless_is = ((λ e. absurd (omega arith)), λ (M, _). absurd (idle M));
  need_is = λ ne _. absurd (ne refl);
}

-- .. that counts, is not empty and has no need
pub says_endless : {S : Semiautomaton} {T : Critical} → Measured S T → NoNeed S T → Says S T endless
says_endless M never = record {
  unmeasured_is = ((λ e. absurd (omega arith)), λ idle. absurd (idle M));
  endless_is = ((λ _. (M, never)), λ _. refl);
  need_is = λ _ ne. absurd (ne refl);
}

-- .. that has one, which lies below the marks
pub says_need : {S : Semiautomaton} → Within S → S.n ≤ 64 → (T : Critical) (k : ℕ) → Measured S T → Need S (member S T) k → Says S T k
says_need {S} W h T k M d =
    let few : k ≤ 2016 = omega (arith, need_bound S W (member S T) (member_lt W T) k d, pairs_le S.n h) in
    record {
      unmeasured_is = ((λ e. absurd (omega arith)), λ idle. absurd (idle M));
      endless_is = ((λ e. absurd (omega arith)), λ (_, never). absurd (never k d.enough));
      need_is = λ _ _. (M, d);
    }

module _ (x : Successors) {rival numbers : List ℕ} (G : Rivalry (means x) rival) (L : Lifetimes (means x) rival numbers) where
  abbrev S : Semiautomaton
  S = means x

  W : Within S
  W = means_within x

  module _ (T : Critical) (M : Measured S T) {r : ℕ} (k : LongestLived numbers (member S T) r) where
    below : (s : ℕ) → member S T s ≡ true → s < x.n
    below = member_lt W T

    -- two states of it are rivals, so that their lifetime is known
    life : {s t : ℕ} → t < s → member S T s ≡ true → member S T t ≡ true → Lifetime S s t (lifetime numbers s t)
    life {s} {t} h a b =
        let differ : ¬ (s ≡ t) = λ e. omega arith in
        L.is s t h (below s a) (G.into s t differ (record { set = T; counts = M.0; left = a; right = b }))

    is_endless : r ≡ endless → NoNeed S T
    is_endless e j p = elim k.some [
      | inl z ↦ absurd (omega arith)
      | inr (s, t, a, b, h, is) ↦ p (record {
        s = s;
        t = t;
        rivals = record { left = a; right = b; differ = omega arith };
        shared = (life h a b).lasts (is ∙ e) j;
      })
    ]

    is_need : ¬ (r ≡ endless) → Need S (member S T) r
    is_need ne = record {
      enough = λ c.
          let o = clash_ordered c in
          let d = o.clash in
          let h = k.all ne d.t d.s d.rivals.right d.rivals.left o.order in
          let ends : ¬ (lifetime numbers d.t d.s ≡ endless) = λ e. omega (arith, h, ne, k.few) in
          (life o.order d.rivals.right d.rivals.left).ends ends
          (share_shorter h (share_swap d.shared));
      least = λ j g. elim k.some [
        | inl z ↦ absurd (omega arith)
        | inr (s, t, a, b, h, is) ↦ record {
          s = s;
          t = t;
          rivals = record { left = a; right = b; differ = omega arith };
          shared = (life h a b).lives j (omega (arith, is));
        }
      ];
    }

    says_measured : Says S T r
    says_measured = elim (ℕ_discrete r endless) [
      | yes e ↦ rw e (says_endless M (is_endless e))
      | no ne ↦ says_need W x.fit.states T r M (is_need ne)
    ]

  -- THE INITIAL STATES AND THE FORK SETS
  pub says_initial : {v : ℕ} → Entered numbers x.starts true v → Says S initial v
  says_initial k = elim (ℕ_discrete x.starts 0) [
    | yes z ↦ rw (k.idle (inr z)) (says_idle (λ (_, (s, e)). false≢true (sym (has_empty s) ∙ rw z at e)))
    | no ne ↦
        let (s, _, e) = any_out x.n _ (some_member x.n x.starts (omega (arith, ne)) x.starts_fit) in
        says_measured initial (tt, (s, e)) (k.measured refl ne)
  ]

  pub says_fork : {reached : ℕ} → reached ≡ set_of x.n (accessible S) → (q a : ℕ) → q < x.n → a < x.m → {v : ℕ}
      → Entered numbers (set_at x.m x.sets.now q a) (has reached q) v → Says S (fork q a) v
  says_fork {reached} R q a h g k = elim (decided (has reached q)) [
    | inr off ↦ rw (k.idle (inl off)) (says_idle (λ ((c, _), _). false≢true (sym off ∙ reached_in S R q W h c)))
    | inl on ↦ elim (ℕ_discrete (set_at x.m x.sets.now q a) 0) [
      | yes z ↦ rw (k.idle (inr z))
          (says_idle (λ (_, (s, e)). false≢true (sym (rw z (has_empty s)) ∙ sym (edge_is x.n x.m x.starts x.sets.now q a s h g) ∙ e)))
      | no ne ↦
          let (s, _, e) = any_out x.n _ (some_member x.n (set_at x.m x.sets.now q a) (omega (arith, ne)) (place_fits x.fit q a h g)) in
          let led : S.edge q a s ≡ true = edge_is x.n x.m x.starts x.sets.now q a s h g ∙ e in
          says_measured (fork q a) ((reached_out S R q on, (s, led)), (s, led))
          (longest_same (λ s. edge_is x.n x.m x.starts x.sets.now q a s h g) (k.measured on ne))
    ]
  ]
