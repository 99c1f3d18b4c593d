-- Rivals: the critical sets that count, their pairs in rows, and what the shared words of rivals say of the look-ahead.
-- Assumes nothing.
use mathlib.Core.Bool.{Bool, true, false, ◌&&◌, ◌||◌, false≢true, and-true, or-false, or_assoc}
use mathlib.Core.Path.{◌≡◌, refl, sym, ◌∙◌, ap}
use mathlib.Core.Logic.{◌⊎◌, inl, inr}
use mathlib.Core.List.{List}
use Prim.Native.Nat.{ℕ, ◌+◌, ◌-◌, ◌^◌, ◌<◌}
use native.Mathlib.Numerals.{add-one}
use native.Mathlib.Nat.{lt_of_lt_of_le}
use native.Mathlib.Omega.{arith}
use lib.Bits.{bit_and, bit_or}
use lib.Count.{count_trailing_zeros}
use lib.Dec.{eqb}
use lib.ListN.{replicate}
use lib.Pow.{pow_mono}
use borrow.Author.Tests.{lt-ltb, eqb-true, ne_eqb}
use Rattle.bitset.specs.Sets.{any}
use Rattle.bitset.specs.Numbers.{has, set_of}
use Rattle.bitset.specs.Members.{Taken}
use Rattle.bitset.proofs.Tests.{and_in, and_out, or_left, or_right, or_cases, not_so, decided}
use Rattle.bitset.proofs.Below.{any_in, any_out, any_none, any_cong}
use Rattle.bitset.proofs.Bits.{has_empty, or_empty}
use Rattle.bitset.proofs.Counts.{has_strike}
use Rattle.bitset.proofs.Taking.{Left, taken, any_next}
use Rattle.semiautomata.specs.Semiautomaton.{Semiautomaton, Within}
use Rattle.semiautomata.specs.Access.{accessible}
use Rattle.semiautomata.specs.Predictability.{Critical, initial, fork, member, Counts, Lookahead}
use Rattle.semiautomata.specs.Successors.{set_at}
use Rattle.semiautomata.specs.Means.{means}
use Rattle.semiautomata.specs.declared.successors.Successors.{Successors}
use Rattle.semiautomata.proofs.Shares.{share_swap, member_lt, rivals_lt, clash_ordered}
use Rattle.semiautomata.proofs.BySets.{edge_out, edge_is}
use Rattle.rows.specs.Rows.{pair, Common}
use Rattle.semiautomata.proofs.Places.{place_fits, zeros_at}
use Rattle.walks.proofs.Steps.{means_within}
use Rattle.walks.proofs.Reaching.{reached_in, reached_out}
use Rattle.pairs.specs.Sharing.{Parted, Lasting}
use Rattle.pairs.specs.declared.Endless.{Endless}
use Rattle.lookahead.specs.Rivals.{Together, Rivalry}
use Rattle.lookahead.specs.inner.Rivals.{Named, Matched, both, Forked, Lasts}

-- A SET WITH ITSELF

-- with one state or none no two are different
pub alone : (set : ℕ) → set < 2 ^ 64 → bit_and set (set - 1) ≡ 0 → (s t : ℕ) → ¬ (s ≡ t) → (has set s && has set t) ≡ false
alone set h e s t d = not_so _ λ f. let (x, y) = and_out (has set s) _ f in d (sym (least s x) ∙ least t y)
  where
    least : (s : ℕ) → has set s ≡ true → count_trailing_zeros 64 set ≡ s
    least s x = elim (decided (eqb (count_trailing_zeros 64 set) s)) [
      | inl q ↦ eqb-true (count_trailing_zeros 64 set) s q
      | inr q ↦ absurd (false≢true (sym (rw e (has_empty s)) ∙ has_strike 64 set s h ∙ rw (x, q)))
    ]

pub matched_none : {set : ℕ} {old : List ℕ} → ((s t : ℕ) → ¬ (s ≡ t) → (has set s && has set t) ≡ false) → Matched set old old
matched_none f = record { is = λ s t d. rw (f s t d, or-false) }

-- THE FORK SETS OF ONE STATE, letter by letter

module _ {A : Successors} {q : ℕ} where
  pub forked_first : {rows : List ℕ} → Forked A q 0 rows rows
  unfolding any
  forked_first = record { is = λ s t d. rw or-false }

  pub forked_next : {old mid new : List ℕ} {i : ℕ} → Matched (set_at A.m A.sets.now q i) mid new → Forked A q i old mid
      → Forked A q (i + 1) old new
  unfolding any
  forked_next p f = rw add-one (record { is = λ s t d. rw (p.is s t d, f.is s t d, or_assoc) })

  -- as long as no set has two states there is nothing to pair
  pub unforked_next : {i several : ℕ} {rows : List ℕ} → q < A.n → i < A.m → (several ≡ 0 → Forked A q i rows rows)
      → bit_or several (bit_and (set_at A.m A.sets.now q i) (set_at A.m A.sets.now q i - 1)) ≡ 0 → Forked A q (i + 1) rows rows
  unforked_next {i} {several} h g f e =
      let word = lt_of_lt_of_le (place_fits A.fit q i h g) (pow_mono A.fit.states) in
      let (none, one) = or_empty several _ e in
      forked_next (matched_none (alone _ word one)) (f none)

-- THE FORK SETS OF THE STATES TAKEN

module _ (A : Successors) where
  -- q is one of those asked for, and some letter leads to both s and t from it
  abbrev pub forks : (asked : ℕ → Bool) (s t q : ℕ) → Bool
  forks asked s t q = asked q && any A.m (both A q s t)

  -- the initial states have both, or such a fork set
  abbrev pub rivals : (asked : ℕ → Bool) (s t : ℕ) → Bool
  rivals asked s t = has A.starts s && has A.starts t || any A.n (forks asked s t)

  -- the rows have the rivals of the initial states and of these sets
  pub record Gathered (done rest : ℕ) (rows : List ℕ) : Type 0 where
    pub is : (s t : ℕ) → ¬ (s ≡ t) → pair rows s t ≡ rivals (taken done rest) s t

  pub gathered_first : {rows : List ℕ} → Matched A.starts (replicate 64 0) rows → Gathered 0 0 rows
  gathered_first p = record {
    is = λ s t d.
        rw (p.is s t d, zeros_at 64 s, has_empty t, any_none A.n (forks (taken 0 0) s t) (λ q _. rw (has_empty q)), or-false);
  }

  -- where the same have been taken
  pub gathered_same : {rows : List ℕ} {done rest more left : ℕ} → ((q : ℕ) → taken more left q ≡ taken done rest q)
      → Gathered done rest rows → Gathered more left rows
  gathered_same f g = record {
    is = λ s t d. g.is s t d ∙ ap (has A.starts s && has A.starts t ||◌) (any_cong A.n _ _ (λ q _. rw (f q)));
  }

  pub gathered_next : {old new : List ℕ} {done rest q left : ℕ} → Left A.n done rest → Taken rest q left → Forked A q A.m old new
      → Gathered done rest old → Gathered done left new
  gathered_next l p f g = record {
    is = λ s t d. rw (f.is s t d, g.is s t d, any_next l p (λ q. any A.m (both A q s t)), or_assoc);
  }

-- THE CRITICAL SETS THAT COUNT

module _ (A : Successors) where
  pub together_below : {s t : ℕ} → Together (means A) s t → (s < A.n) × (t < A.n)
  together_below k = (member_lt (means_within A) k.set _ k.left, member_lt (means_within A) k.set _ k.right)

  pub names_initial : (s t : ℕ) → (has A.starts s && has A.starts t) ≡ true → Named (means A) 255 0 s t
  names_initial s t e =
      let (p, q) = and_out (has A.starts s) _ e in
      record { together = record { set = initial; counts = tt; left = p; right = q }; names = refl }

  module _ {reached : ℕ} (R : reached ≡ set_of A.n (accessible (means A))) (s t : ℕ) where
    -- the fork set of a reached state that has both
    together_fork : (q a : ℕ) → q < A.n → a < A.m → has reached q ≡ true → both A q s t a ≡ true → Together (means A) s t
    together_fork q a h g r e =
        let (x, y) = and_out (has (set_at A.m A.sets.now q a) s) _ e in
        let p = edge_is A.n A.m A.starts A.sets.now q a s h g ∙ x in
        record {
          set = fork q a;
          counts = (reached_out (means A) R q r, (s, p));
          left = p;
          right = edge_is A.n A.m A.starts A.sets.now q a t h g ∙ y;
        }

    pub names_fork : (q a : ℕ) → q < A.n → a < A.m → has reached q ≡ true → both A q s t a ≡ true → Named (means A) q a s t
    unfolding together_fork
    names_fork q a h g r e = record {
      together = together_fork q a h g r e;
      names = rw (ne_eqb q 255 (λ e. omega (arith, A.fit.states)), lt-ltb q A.n h, lt-ltb a A.m g);
    }

    -- two states are together in the initial states, or in the fork set of a reached state
    abbrev Where : Type 0
    Where =
        ((has A.starts s && has A.starts t) ≡ true)
        ⊎ ((q : ℕ) × (a : ℕ) × (q < A.n) × (a < A.m) × (has reached q ≡ true) × (both A q s t a ≡ true))

    found : Together (means A) s t → Where
    found k = go k.set k.counts k.left k.right
      where
        go : (T : Critical) → Counts (means A) T → member (means A) T s ≡ true → member (means A) T t ≡ true → Where
        go initial _ p q = inl (and_in _ _ p q)
        go (fork q a) (c, _) p r =
            let (h, g, x) = edge_out A.n A.m A.starts A.sets.now q a s p in
            let y = (edge_out A.n A.m A.starts A.sets.now q a t r).2 in
            inr (q, a, h, g, reached_in (means A) R q (means_within A) h c, and_in _ _ x y)

    rival_out : rivals A (has reached) s t ≡ true → Together (means A) s t
    rival_out e = elim (or_cases (has A.starts s && has A.starts t) _ e) [
      | inl d ↦ (names_initial s t d).together
      | inr d ↦
          let (q, h, d) = any_out A.n _ d in
          let (r, d) = and_out (has reached q) _ d in
          let (a, g, d) = any_out A.m _ d in
          together_fork q a h g r d
    ]

    rival_in : Together (means A) s t → rivals A (has reached) s t ≡ true
    rival_in k = elim (found k) [
      | inl d ↦ or_left (has A.starts s && has A.starts t) _ d
      | inr (q, a, h, g, r, d) ↦
          or_right (has A.starts s && has A.starts t) _ (any_in A.n _ q h (and_in _ _ r (any_in A.m _ a g d)))
    ]

    -- the search has passed every critical set that counts
    pub together_none : (has A.starts s && has A.starts t) ≡ false → any A.n (forks A (has reached) s t) ≡ false
        → ¬ Together (means A) s t
    together_none p f k = false≢true (sym (rw (p, f)) ∙ rival_in k)

  -- the rows of rivals
  pub rivalry : {reached : ℕ} → reached ≡ set_of A.n (accessible (means A)) → {done : ℕ} → reached ≡ done → {rows : List ℕ}
      → Gathered A done 0 rows → Rivalry (means A) rows
  rivalry {reached} R e {rows} g = record {
    from = λ s t d e. rival_out R s t (sym (is s t d) ∙ e);
    into = λ s t d k. is s t d ∙ rival_in R s t k;
  }
    where
      is : (s t : ℕ) → ¬ (s ≡ t) → pair rows s t ≡ rivals A (has reached) s t
      is s t d =
          rw (g.is s t d, e) (ap (has A.starts s && has A.starts t ||◌) (any_cong A.n _ _ (λ q _. rw (has_empty q, and-true))))

-- WHAT SHARED WORDS SAY OF RIVALS

module _ {S : Semiautomaton} (W : Within S) {rival : List ℕ} (R : Rivalry S rival) where
  pub parted_lookahead : {k : ℕ} → Parted S rival k → Lookahead S k
  parted_lookahead p = record {
    enough = λ T c h.
        let o = clash_ordered h in
        let k = o.clash in
        let r = k.rivals in
        p.enough (record {
          low = k.s;
          high = k.t;
          order = o.order;
          below = (rivals_lt W T r).1;
          paired = R.into k.t k.s (λ e. r.differ (sym e)) (record { set = T; counts = c; left = r.right; right = r.left });
          shared = share_swap k.shared;
        });
    least = λ j h.
        let w = p.least j h in
        let differ : ¬ (w.high ≡ w.low) = λ e. omega (arith, w.order) in
        let k = R.from w.high w.low differ w.paired in (
          k.set,
          k.counts,
          record {
            s = w.high;
            t = w.low;
            rivals = record { left = k.left; right = k.right; differ = differ };
            shared = w.shared;
          },
        );
  }

  pub endless_lasts : (e : Endless) → Lasting S e.live → Common S.n e.live rival e.low e.high → Lasts S e
  endless_lasts e l c =
      let h : e.low < S.n = omega (arith, c.order, c.below) in
      let k = R.from e.high e.low (λ q. omega (arith, c.order)) c.rivals in
      record {
        lasting = l;
        order = c.order;
        together = record { set = k.set; counts = k.counts; left = k.right; right = k.left };
        lives = l.shared e.low e.high h c.below (λ j. share_swap (l.share e.high e.low c.below h c.lives j));
      }
