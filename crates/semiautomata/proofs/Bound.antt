-- Theorem 5: the look-ahead of n states, and the need of each set of them, is at most n (n - 1) / 2; with one letter the look-ahead is at
-- most n - 1.
-- Assumes nothing.
use Prim.Native.Nat.{ℕ, zero, suc, ◌+◌, ◌-◌, ◌*◌, ◌/◌, ◌≤◌, ◌<◌}
use mathlib.Core.Bool.{Bool, true}
use mathlib.Core.Path.{◌≡◌, refl, sym, ◌∙◌, ap₂, subst, subst₂}
use mathlib.Core.Logic.{◌⊎◌, inl, inr, ◌≢◌}
use mathlib.Core.List.{List, [], ◌∷◌}
use native.Mathlib.Omega.{arith}
use native.Mathlib.Decide.{ℕ_discrete, dec_le}
use lib.ListN.{length, get_or}
use Rattle.semiautomata.specs.Semiautomaton.{Semiautomaton, Within, Path, Spells}
use Rattle.semiautomata.specs.Predictability.{Share, Clash, SetPredictable, Need, Lookahead}
use Rattle.semiautomata.proofs.Shares.{share_swap, share_left, share_shorter, share_after, member_lt, rivals_lt}
use Rattle.semiautomata.proofs.Pairs.{repeats, triangle, triangle_is, unordered, unordered_lt, unordered_inj}
use Rattle.semiautomata.proofs.Runs.{spell, length_spell, Run, trace, trace_run, run_path, run_lt}

-- two runs over the same letters, whose first pair shares no word of more letters than that
module _ (S : Semiautomaton) (L : ℕ) (c f g : ℕ → ℕ) (run_f : Run S L c f) (run_g : Run S L c g) (top : ¬ Share S (suc L) (f 0) (g 0)) where
  -- the pair after i letters shares what is left ..
  rest : (i d : ℕ) → i + d ≤ L → Share S d (f i) (g i)
  rest i d h = record {
    word = spell c i d;
    long = length_spell c i d;
    left = (f (i + d), run_path S L c f run_f i d (i + d) refl h);
    right = (g (i + d), run_path S L c g run_g i d (i + d) refl h);
  }

  -- .. and no more
  tall : (j d : ℕ) → j ≤ L → L < j + d → ¬ Share S d (f j) (g j)
  tall j d h k sh =
      top (share_shorter (simp length_spell k)
      (share_after (spell c 0 j) (run_path S L c f run_f 0 j j (omega arith) h) (run_path S L c g run_g 0 j j (omega arith) h) sh))

  -- so a later pair does not share all that an earlier one shares
  apart : (i j : ℕ) → i < j → j ≤ L → ¬ ((d : ℕ) → Share S d (f i) (g i) → Share S d (f j) (g j))
  apart i j h k all = tall j (suc L - j) k (omega arith) (all (suc L - j) (rest i (suc L - j) (omega arith)))

  -- x is one of the two states after i letters
  abbrev In : ℕ → ℕ → Type 0
  In x i = (x ≡ f i) ⊎ (x ≡ g i)

  in_self : (x i d : ℕ) → In x i → Share S d (f i) (g i) → Share S d x x
  in_self x i d (inl e) sh = rw e (share_left sh)
  in_self x i d (inr e) sh = rw e (share_left (share_swap sh))

  -- where the two runs meet, they meet in a state that neither was in before ..
  fresh : (i j : ℕ) → i < j → j ≤ L → f j ≡ g j → ¬ In (f j) i
  fresh i j h k e x = apart i j h k (λ d sh. subst (Share S d (f j)) e (in_self (f j) i d x sh))

  -- .. and that neither is in again: going round would share more than is left
  loop : (i : ℕ) → i ≤ L → f i ≡ g i → (v : List ℕ) → 0 < length v → ¬ Path S (f i) v (f i)
  loop i h e v l p =
      tall i (length v + (L - i)) h (omega arith) (subst (Share S (length v + (L - i)) (f i)) e
      (share_after v p p (share_left (rest i (L - i) (omega arith)))))

  gone : (i j : ℕ) → i < j → j ≤ L → f i ≡ g i → ¬ In (f i) j
  gone i j h k e x = loop i (omega arith) e v (simp length_spell (omega arith)) (round x)
    where
      v : List ℕ
      v = spell c i (j - i)

      round : In (f i) j → Path S (f i) v (f i)
      round (inl x) = subst (Path S (f i) v) (sym x) (run_path S L c f run_f i (j - i) j (omega arith) k)
      round (inr x) = subst₂ (λ (y z : ℕ). Path S y v z) (sym e) (sym x) (run_path S L c g run_g i (j - i) j (omega arith) k)

  -- the second state after i letters, and the very first state where the two are one: so the pairs stay pairs of different states
  abbrev partner : (i : ℕ) → Dec (f i ≡ g i) → ℕ
  partner i (yes _) = f 0
  partner i (no _) = g i

  partner_ne : f 0 ≢ g 0 → (i : ℕ) (d : Dec (f i ≡ g i)) → i ≤ L → f i ≢ partner i d
  partner_ne ne zero (yes e) h x = ne e
  partner_ne ne (suc i) (yes e) h x = fresh 0 (suc i) (omega arith) h e (inl x)
  partner_ne ne i (no e) h x = e x

  distinct : (i j : ℕ) → i < j → j ≤ L → (d : Dec (f i ≡ g i)) (e : Dec (f j ≡ g j))
      → ¬ (((f i ≡ f j) × (partner i d ≡ partner j e)) ⊎ ((f i ≡ partner j e) × (partner i d ≡ f j)))
  distinct i j h k (yes p) (yes q) (inl (x, y)) = fresh i j h k q (inl (sym x))
  distinct i j h k (yes p) (yes q) (inr (x, y)) = fresh i j h k q (inl (sym (x ∙ y)))
  distinct i j h k (no p) (yes q) (inl (x, y)) = fresh i j h k q (inl (sym x))
  distinct i j h k (no p) (yes q) (inr (x, y)) = fresh i j h k q (inr (sym y))
  distinct i j h k (yes p) (no q) (inl (x, y)) = gone i j h k p (inl x)
  distinct i j h k (yes p) (no q) (inr (x, y)) = gone i j h k p (inr x)
  distinct i j h k (no p) (no q) (inl (x, y)) = apart i j h k (λ d sh. subst₂ (Share S d) x y sh)
  distinct i j h k (no p) (no q) (inr (x, y)) = apart i j h k (λ d sh. share_swap (subst₂ (Share S d) x y sh))

  pairs_bound : Within S → f 0 < S.n → g 0 < S.n → f 0 ≢ g 0 → suc L ≤ triangle S.n
  pairs_bound W a b ne = elim (dec_le (suc L) (triangle S.n)) [ yes h ↦ h | no h ↦ absurd (crowded (omega arith)) ]
    where
      meet : (i : ℕ) → Dec (f i ≡ g i)
      meet i = ℕ_discrete (f i) (g i)

      partner_lt : (i : ℕ) (d : Dec (f i ≡ g i)) → i ≤ L → partner i d < S.n
      partner_lt i (yes _) h = a
      partner_lt i (no _) h = run_lt S W L c g run_g b i h

      crowded : triangle S.n ≤ L → ⊥
      crowded h =
          let r = repeats (triangle S.n) (λ i. unordered (f i) (partner i (meet i)))
          (λ i k. unordered_lt S.n (f i) (partner i (meet i)) (run_lt S W L c f run_f a i (omega arith))
          (partner_lt i (meet i) (omega arith)) (partner_ne ne i (meet i) (omega arith))) in
          distinct r.i r.j r.before (omega arith) (meet r.i) (meet r.j)
          (unordered_inj (f r.i) (partner r.i (meet r.i)) (f r.j) (partner r.j (meet r.j))
          (partner_ne ne r.i (meet r.i) (omega arith)) (partner_ne ne r.j (meet r.j) (omega arith)) r.same)

-- a run of single states that ends as soon as it can, and a state beside it that lives as long
module _ (S : Semiautomaton) (L : ℕ) (c f : ℕ → ℕ) (run_f : Run S L c f) (top : ¬ Share S (suc L) (f 0) (f 0))
    (t : ℕ) (lives : Share S L t t) (beside : t ≢ f 0) where
  abbrev states : ℕ → ℕ
  states zero = t
  states (suc i) = f i

  states_differ : (i j : ℕ) → i < j → j ≤ suc L → states i ≢ states j
  states_differ i zero h k e = absurd (omega arith)
  states_differ zero (suc zero) h k e = beside e
  states_differ zero (suc (suc j)) h k e =
      tall S L c f f run_f run_f top (suc j) L (omega arith) (omega arith) (subst (λ (x : ℕ). Share S L x x) e lives)
  states_differ (suc i) (suc j) h k e =
      apart S L c f f run_f run_f top i j (omega arith) (omega arith) (λ d. subst (λ (x : ℕ). Share S d x x) e)

  states_bound : Within S → f 0 < S.n → t < S.n → suc (suc L) ≤ S.n
  states_bound W a b = elim (dec_le (suc (suc L)) S.n) [ yes h ↦ h | no h ↦ absurd (crowded (omega arith)) ]
    where
      states_lt : (i : ℕ) → i ≤ suc L → states i < S.n
      states_lt zero h = b
      states_lt (suc i) h = run_lt S W L c f run_f a i (omega arith)

      crowded : S.n ≤ suc L → ⊥
      crowded h = let r = repeats S.n states (λ i k. states_lt i (omega arith)) in
          states_differ r.i r.j r.before (omega arith) r.same

module _ (S : Semiautomaton) (W : Within S) where
  -- a set of states clashes with L letters, and with one more it does not
  clash_bound : {X : ℕ → Bool} → ((s : ℕ) → X s ≡ true → s < S.n) → {L : ℕ} → Clash S X L → SetPredictable S X (suc L)
      → suc L ≤ S.n * (S.n - 1) / 2
  clash_bound below h enough =
      let w = h.shared.word in
      let (x, p) = h.shared.left in
      let (y, q) = h.shared.right in
      rw (triangle_is S.n, ← h.shared.long)
      (pairs_bound S (length w) (λ i. get_or w i 0) (trace S w h.s x p) (trace S w h.t y q) (trace_run S w h.s x p)
      (trace_run S w h.t y q)
      (rw h.shared.long λ sh. enough (record { s = h.s; t = h.t; rivals = h.rivals; shared = sh })) W
      (below h.s h.rivals.left) (below h.t h.rivals.right) h.rivals.differ)

  pub need_bound : (X : ℕ → Bool) → ((s : ℕ) → X s ≡ true → s < S.n) → (k : ℕ) → Need S X k → k ≤ S.n * (S.n - 1) / 2
  need_bound X below zero d = omega arith
  need_bound X below (suc L) d = clash_bound below (d.least L (omega arith)) d.enough

  pub lookahead_bound : (k : ℕ) → Lookahead S k → k ≤ S.n * (S.n - 1) / 2
  lookahead_bound zero l = omega arith
  lookahead_bound (suc L) l = let (T, c, h) = l.least L (omega arith) in clash_bound (member_lt W T) h (l.enough T c)

  module _ (one : S.m ≡ 1) where
    -- with one letter there is one word of each length
    one_word : (w v : List ℕ) (s x t y : ℕ) → length w ≡ length v → Path S s w x → Path S t v y → w ≡ v
    one_word [] [] s x t y e p q = refl
    one_word [] (b ∷ v) s x t y e p q = absurd (omega arith)
    one_word (a ∷ w) [] s x t y e p q = absurd (omega arith)
    one_word (a ∷ w) (b ∷ v) s x t y e (r, p, p') (u, q, q') =
        let ab : a ≡ b = omega (arith, W.letter_lt s a r p, W.letter_lt t b u q) in
        ap₂ ◌∷◌ ab (one_word w v r x u y (omega arith) p' q')

    share_one : (j s t : ℕ) → Share S j s s → Share S j t t → Share S j s t
    share_one j s t g h =
        let (x, p) = g.left in
        let (y, q) = h.left in
        record {
          word = g.word;
          long = g.long;
          left = g.left;
          right = rw (one_word g.word h.word s x t y (g.long ∙ sym h.long) p q) h.left;
        }

    -- a rival that lives no longer than w leaves room for one state more than the walk has
    alone : (w : List ℕ) (s t : ℕ) → s < S.n → t < S.n → t ≢ s → Spells S s w → Spells S t w → ¬ Share S (suc (length w)) s s
        → suc (suc (length w)) ≤ S.n
    alone w s t a b ne (x, p) q top =
        states_bound S (length w) (λ i. get_or w i 0) (trace S w s x p) (trace_run S w s x p) top t
        (record { word = w; long = refl; left = q; right = q }) ne W a b

    pub lookahead_bound_one : (k : ℕ) → Lookahead S k → k ≤ S.n - 1
    lookahead_bound_one zero l = omega arith
    lookahead_bound_one (suc L) l = elim (dec_le (suc (suc L)) S.n) [ yes h ↦ omega arith | no h ↦ absurd (crowded h) ]
      where
        crowded : ¬ (suc (suc L) ≤ S.n) → ⊥
        crowded h =
            let (T, c, k) = l.least L (omega arith) in
            let (a, b) = rivals_lt W T k.rivals in
            let sh = k.shared in
            let full : ¬ (suc (suc (length sh.word)) ≤ S.n) = omega (arith, sh.long) in
            full (alone sh.word k.s k.t a b (λ e. k.rivals.differ (sym e)) sh.left sh.right λ x.
            full (alone sh.word k.t k.s b a k.rivals.differ sh.right sh.left λ y.
            l.enough T c (record {
              s = k.s;
              t = k.t;
              rivals = k.rivals;
              shared =
                  rw sh.long at (share_one (suc (length sh.word)) k.s k.t x y);
            })))
