-- The look-ahead is decided: the least level without a clash is it, and a clash at n × n letters has a witness that there is none.
-- Assumes nothing.
use Prim.Native.Nat.{ℕ, zero, suc, ◌+◌, ◌-◌, ◌*◌, ◌/◌, ◌≤◌, ◌<◌}
use mathlib.Core.Bool.{Bool, true, false, true≢false}
use mathlib.Core.Path.{◌≡◌, refl, sym, ◌∙◌}
use mathlib.Core.Logic.{◌⊎◌, ◌↔◌, inl, inr}
use native.Mathlib.Omega.{arith}
use native.Mathlib.Decide.{ℕ_discrete}
use Rattle.bitset.specs.Sets.{any}
use Rattle.bitset.proofs.Tests.{and_in, and_out, or_left, or_right, or_cases, decided}
use Rattle.bitset.proofs.Below.{any_in, with_any, any_out}
use Rattle.semiautomata.specs.Such.{LeastSuch}
use Rattle.semiautomata.specs.Semiautomaton.{Semiautomaton, Within}
use Rattle.semiautomata.specs.Predictability.{Critical, initial, fork, member, Counts, Share, Clash, SomeClash, SetPredictable, Need}
use Rattle.semiautomata.specs.Predictability.{Predictable, Lookahead, Unpredictable, Claim, Witness}
use Rattle.semiautomata.specs.Levels.{live, counts, clash_in, clash_of, clash}
use Rattle.semiautomata.proofs.Shares.{share_shorter, member_lt, rivals_lt, clash_shorter, clash_ordered, predictable_more}
use Rattle.semiautomata.proofs.Access.{accessible_in, accessible_out}
use Rattle.semiautomata.proofs.Levels.{with_and, live_in, live_out, live_fixed}
use Rattle.semiautomata.proofs.Lassos.{lasso_share, share_twin, share_ever}
use Rattle.semiautomata.proofs.Bound.{lookahead_bound}

-- the test passes below N, or there is a first number at which it fails
pub first_failure : (p : ℕ → Bool) (N : ℕ) → ((j : ℕ) → j < N → p j ≡ true) ⊎ ((k : ℕ) × (p k ≡ false) × ((j : ℕ) → j < k → p j ≡ true))
first_failure p zero = inl (λ j h. absurd (omega arith))
first_failure p (suc N) = elim (first_failure p N) [ inr k ↦ inr k | inl all ↦ go all (decided (p N)) ]
  where
    go : ((j : ℕ) → j < N → p j ≡ true) → (p N ≡ true) ⊎ (p N ≡ false)
        → ((j : ℕ) → j < suc N → p j ≡ true) ⊎ ((k : ℕ) × (p k ≡ false) × ((j : ℕ) → j < k → p j ≡ true))
    go all (inl e) = inl (λ j h. elim (ℕ_discrete j N) [ yes q ↦ rw q e | no q ↦ all j (omega arith) ])
    go all (inr e) = inr (N, e, all)

-- THE TESTS SAY WHAT THEY MEAN
module _ (S : Semiautomaton) where
  pub counts_out : (T : Critical) → counts S T ≡ true → Counts S T
  counts_out initial e = tt
  counts_out (fork q a) e =
      let (some, reached) = and_out (any S.n (S.edge q a)) _ e in
      let (t, _, e) = any_out S.n (S.edge q a) some in
      (accessible_out S q reached, (t, e))

  pub clash_in_out : (X : ℕ → Bool) (j : ℕ) → clash_in S X j ≡ true → Clash S X j
  unfolding clash_in
  clash_in_out X j = with_any _ _ λ t _. with_any _ _ λ s h. with_and _ _ λ a. with_and _ _ λ b e.
      record { s = s; t = t; rivals = record { left = a; right = b; differ = omega arith }; shared = live_out S j s t e }

  clash_of_out : (j : ℕ) (T : Critical) → clash_of S j T ≡ true → SomeClash S j
  clash_of_out j T = with_and (counts S T) _ λ a e. (T, counts_out T a, clash_in_out (member S T) j e)

  pub clash_out : (j : ℕ) → clash S j ≡ true → SomeClash S j
  unfolding clash
  clash_out j e = elim (or_cases (clash_of S j initial) _ e) [
    | inl h ↦ clash_of_out j initial h
    | inr h ↦ with_any _ _ (λ q _. with_any _ _ λ a _. clash_of_out j (fork q a)) h
  ]

  pub some_shorter : (j k : ℕ) → j ≤ k → SomeClash S k → SomeClash S j
  some_shorter j k l (T, c, h) = (T, c, clash_shorter l h)

  -- the set of a true claim clashes with any number of letters
  pub witness_endless : (c : Claim) → Witness S c → (k : ℕ) → ¬ SetPredictable S (member S c.set) k
  witness_endless c w k p = p (record {
    s = c.s;
    t = c.t;
    rivals = record { left = w.s_in; right = w.t_in; differ = omega arith };
    shared = lasso_share S c.s c.t c.stem c.cycle w.turns w.s_lasso w.t_lasso k;
  })

  pub witness_unpredictable : (c : Claim) → Witness S c → Unpredictable S
  witness_unpredictable c w k p = witness_endless c w k (p c.set w.counts)

  module _ (W : Within S) where
    pub counts_in : (T : Critical) → Counts S T → counts S T ≡ true
    counts_in initial c = refl
    counts_in (fork q a) (c, (t, e)) = and_in _ _ (any_in S.n (S.edge q a) t (W.to_lt q a t e) e) (accessible_in S W q c)

    pub clash_in_in : (X : ℕ → Bool) → ((s : ℕ) → X s ≡ true → s < S.n) → (j : ℕ) → Clash S X j → clash_in S X j ≡ true
    unfolding clash_in
    clash_in_in X below j k =
        let o = clash_ordered k in
        let r = o.clash.rivals in
        any_in _ _ o.clash.t (below o.clash.t r.right) (any_in _ _ o.clash.s o.order
        (and_in _ _ r.left (and_in _ _ r.right (live_in S W o.clash.shared))))

    clash_of_in : (j : ℕ) (T : Critical) → Counts S T → Clash S (member S T) j → clash_of S j T ≡ true
    clash_of_in j T c k = and_in _ _ (counts_in T c) (clash_in_in (member S T) (member_lt W T) j k)

    clash_by : (j : ℕ) (T : Critical) → Counts S T → Clash S (member S T) j → clash S j ≡ true
    unfolding clash
    clash_by j initial c k = or_left (clash_of S j initial) _ (clash_of_in j initial c k)
    clash_by j (fork q a) c k =
        let (t, e) = c.1 in
        or_right (clash_of S j initial) _
        (any_in _ _ q (W.from_lt q a t e) (any_in _ _ a (W.letter_lt q a t e) (clash_of_in j (fork q a) c k)))

    pub clash_in_lem : (j : ℕ) → SomeClash S j → clash S j ≡ true
    clash_in_lem j (T, c, k) = clash_by j T c k

    -- with j letters two rivals share a word, or S is j-predictable
    pub clash_else : (j : ℕ) → ¬ Predictable S j → SomeClash S j
    clash_else j no_such = elim (decided (clash S j)) [
      | inl e ↦ clash_out j e
      | inr e ↦ absurd (no_such (λ T c h. true≢false (sym (clash_in_lem j (T, c, h)) ∙ e)))
    ]

    -- the look-ahead is the least number of whatever holds exactly where S is so predictable
    pub least_such : (Q : ℕ → Type 0) → ((j : ℕ) → Predictable S j ↔ Q j) → (k : ℕ) → Lookahead S k ↔ LeastSuch Q k
    least_such Q same k = (
      λ l. record {
        enough = (same k).0 l.enough;
        least = λ j q.
            let below : ¬ (j < k) = λ h. let (T, c, d) = l.least j h in (same j).1 q T c d in
            omega (arith, below);
      },
      λ l. record {
        enough = (same k).1 l.enough;
        least = λ j h. clash_else j (λ p. let g = l.least j ((same j).0 p) in omega (arith, g, h));
      },
    )

    -- the first level without a clash is the look-ahead
    pub lookahead_first : (k : ℕ) → ((j : ℕ) → j < k → clash S j ≡ true) → clash S k ≡ false → Lookahead S k
    lookahead_first k before e = record {
      enough = λ T c h. true≢false (sym (clash_in_lem k (T, c, h)) ∙ e);
      least = λ j h. clash_out j (before j h);
    }

    -- .. and of one set, its need
    pub need_first : (X : ℕ → Bool) → ((s : ℕ) → X s ≡ true → s < S.n) → (k : ℕ) → ((j : ℕ) → j < k → clash_in S X j ≡ true)
        → clash_in S X k ≡ false → Need S X k
    need_first X below k before e = record {
      enough = λ h. true≢false (sym (clash_in_in X below k h) ∙ e);
      least = λ j h. clash_in_out X j (before j h);
    }

    -- a set of states that clashes with n × n letters clashes with any number
    pub clash_endless : (X : ℕ → Bool) → ((s : ℕ) → X s ≡ true → s < S.n) → clash_in S X (S.n * S.n) ≡ true
        → (k : ℕ) → ¬ SetPredictable S X k
    clash_endless X below e k p =
        let c = clash_in_out X (S.n * S.n) e in
        let r = c.rivals in
        p (record {
          s = c.s;
          t = c.t;
          rivals = r;
          shared =
              share_ever S W c.s c.t (below c.s r.left) (below c.t r.right) c.shared k;
        })

    pub need_either : (X : ℕ → Bool) → ((s : ℕ) → X s ≡ true → s < S.n) → ((k : ℕ) × Need S X k) ⊎ ((k : ℕ) → ¬ SetPredictable S X k)
    need_either X below = elim (first_failure (clash_in S X) (suc (S.n * S.n))) [
      | inl all ↦ inr (clash_endless X below (all (S.n * S.n) (omega arith)))
      | inr (k, e, before) ↦ inl (k, need_first X below k before e)
    ]

    -- THE WITNESS
    pub some_witness : SomeClash S (S.n * S.n) → (c : Claim) × Witness S c
    some_witness (T, c, k) =
        let o = (clash_ordered k).clash in
        let (a, b) = rivals_lt W T o.rivals in
        let z = share_twin S W o.s o.t a b o.shared in (
          record { set = T; s = o.s; t = o.t; stem = z.stem; cycle = z.cycle },
          record {
            counts = c;
            s_in = o.rivals.left;
            t_in = o.rivals.right;
            order = (clash_ordered k).order;
            turns = z.turns;
            short = z.short;
            s_lasso = z.left;
            t_lasso = z.right;
          },
        )

    pub lookahead_or_witness : ((k : ℕ) × Lookahead S k) ⊎ ((c : Claim) × Witness S c)
    lookahead_or_witness = elim (first_failure (clash S) (suc (S.n * S.n))) [
      | inl all ↦ inr (some_witness (clash_out (S.n * S.n) (all (S.n * S.n) (omega arith))))
      | inr (k, e, before) ↦ inl (k, lookahead_first k before e)
    ]

    pub unpredictable_witness : Unpredictable S → (c : Claim) × Witness S c
    unpredictable_witness u = elim lookahead_or_witness [ inl (k, l) ↦ absurd (u k l.enough) | inr h ↦ h ]

    -- a clash at the bound of Theorem 5, and one at a level that repeats, never end
    pub bound_endless : SomeClash S (S.n * (S.n - 1) / 2) → Unpredictable S
    bound_endless (T, c, h) = elim lookahead_or_witness [
      | inr (d, w) ↦ witness_unpredictable d w
      | inl (k, l) ↦ absurd (predictable_more (lookahead_bound S W k l) l.enough T c h)
    ]

    pub fixed_endless : (j : ℕ) → ((s t : ℕ) → s < S.n → t < S.n → live S (suc j) s t ≡ live S j s t) → SomeClash S j → Unpredictable S
    fixed_endless j same (T, c, h) k p = p T c (record { s = h.s; t = h.t; rivals = h.rivals; shared = long })
      where
        long : Share S k h.s h.t
        long =
            let (a, b) = rivals_lt W T h.rivals in
            let on : live S (j + k) h.s h.t ≡ true = live_fixed S j same (j + k) (omega arith) h.s h.t a b
            ∙ live_in S W h.shared in
            share_shorter (omega arith) (live_out S (j + k) h.s h.t on)
