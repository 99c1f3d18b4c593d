-- Following a pair that lives for ever on to such pairs, until one comes again: its way round is a stem and a cycle for both states.
-- Assumes nothing.
use mathlib.Core.Bool.{Bool, true, not, ◌&&◌, and-true, and-false}
use mathlib.Core.Path.{◌≡◌, refl, sym, ◌∙◌}
use mathlib.Core.List.{List, [], ◌∷◌}
use Prim.Native.Nat.{ℕ, zero, suc, ◌+◌, ◌*◌, ◌≤◌, ◌<◌, ◌-◌}
use native.Mathlib.Decide.{ℕ_discrete}
use native.Mathlib.Nat.{zero-add, mul-le-mul}
use native.Mathlib.Numerals.{add-one}
use native.Mathlib.Omega.{arith}
use lib.Dec.{eqb}
use lib.ListN.{length, get_or, set, length-set, take, drop, replicate, length-replicate}
use lib.Seq.{get_or-set_same, get_or-set_other, take-set-le, take-suc-set, length-take-le}
use lib.Seq.{drop-append-le, drop-set-lt, drop-drop, slice_empty}
use Rattle.std.proofs.lemmas.List.{drop-take}
use borrow.Author.Tests.{eq-eqb, ne_eqb}
use Rattle.bitset.specs.Sets.{size}
use Rattle.bitset.proofs.Below.{size_cong, size_without}
use Rattle.semiautomata.specs.Semiautomaton.{Semiautomaton, Within, Path}
use Rattle.semiautomata.specs.Predictability.{Lasso}
use Rattle.semiautomata.specs.Successors.{place}
use Rattle.semiautomata.proofs.Paths.{path_join}
use Rattle.semiautomata.proofs.BySets.{place_lt}
use Rattle.rows.specs.Rows.{pair}
use Rattle.semiautomata.proofs.Places.{place_same, zeros_at}

-- the letters lead from s to u in j steps, and on to x in i steps
pub record Way (S : Semiautomaton) (s : ℕ) (letters : List ℕ) (j i u x : ℕ) : Type 0 where
  pub to : Path S s (take j letters) u
  pub on : Path S u (drop j (take i letters)) x

module _ {S : Semiautomaton} {s : ℕ} {letters : List ℕ} where
  way_here : (i x : ℕ) → Path S s (take i letters) x → Way S s letters i i x x
  way_here i x p = record { to = p; on = rw (slice_empty i letters) refl }

  way_start : {i x : ℕ} → Path S s (take i letters) x → Way S s letters 0 i s x
  way_start p = record { to = refl; on = p }

  -- one letter more
  way_next : {j i u x : ℕ} (a r : ℕ) → j ≤ i → i < length letters → S.edge x a r ≡ true → Way S s letters j i u x
      → Way S s (set letters i a) j (i + 1) u r
  way_next {j} {i} {u} {x} a r h room e w = record {
    to = rw (take-set-le j letters i a h) w.to;
    on =
        let apart = drop-append-le j (take i letters) (a ∷ []) (rw (length-take-le i letters (omega arith)) h) in
        rw (add-one, take-suc-set letters i a room, apart)
        (path_join S (drop j (take i letters)) (a ∷ []) u x r w.on (r, e, refl));
  }

-- a stem and a cycle for s and for t, written from the front of letters that keep their rest
pub record Ringed (S : Semiautomaton) (s t stem cycle : ℕ) (old letters : List ℕ) : Type 0 where
  pub turns : 0 < cycle
  pub short : stem + cycle ≤ S.n * S.n
  pub s_lasso : Lasso S s (take stem letters) (take cycle (drop stem letters))
  pub t_lasso : Lasso S t (take stem letters) (take cycle (drop stem letters))
  pub kept : drop (stem + cycle) letters ≡ drop (stem + cycle) old

-- the pairs come to so far are marked by the steps that lead to them, plus 1; the last one, x and y, has the place `at`
pub record Trail (S : Semiautomaton) (rows : List ℕ) (s t : ℕ) (old letters seen : List ℕ) (x y at i : ℕ) : Type 0 where
  pub stands : at ≡ place S.n x y
  pub x_lt : x < S.n
  pub y_lt : y < S.n
  pub lives : pair rows x y ≡ true
  pub long : length letters ≡ length old
  pub kept : drop i letters ≡ drop i old
  pub s_path : Path S s (take i letters) x
  pub t_path : Path S t (take i letters) y
  pub wide : S.n * S.n ≤ length seen
  pub marked : (u v j : ℕ) → u < S.n → v < S.n → get_or seen (place S.n u v) 0 ≡ j + 1
      → (j < i) × Way S s letters j i u x × Way S t letters j i v y
  pub count : i + size (S.n * S.n) (λ p. eqb (get_or seen p 0) 0) ≡ S.n * S.n

-- a pair has a place among 64 × 64
pub place_pairs : {n : ℕ} → n ≤ 64 → (x y : ℕ) → x < n → y < n → place n x y < 4096
place_pairs {n} h x y hx hy = omega (arith, place_lt n n x y hx hy, mul-le-mul h h)

size_all : (n : ℕ) (p : ℕ → Bool) → ((k : ℕ) → p k ≡ true) → size n p ≡ n
unfolding size
size_all zero p f = refl
size_all (suc n) p f = rw (size_all n p f, f n, add-one)

module _ {S : Semiautomaton} (W : Within S) {rows : List ℕ} {s t : ℕ} {old : List ℕ} where
  pub trail_first : (k : ℕ) → S.n * S.n ≤ k → s < S.n → t < S.n → pair rows s t ≡ true
      → Trail S rows s t old old (replicate k 0) s t (place S.n s t) 0
  trail_first k h hs ht e = record {
    stands = refl;
    x_lt = hs;
    y_lt = ht;
    lives = e;
    long = refl;
    kept = refl;
    s_path = refl;
    t_path = refl;
    wide = rw length-replicate h;
    marked = λ u v j hu hv f. absurd (omega (arith, zeros_at k (place S.n u v)));
    count = zero-add _ ∙ size_all _ _ (λ p. rw (zeros_at k p));
  }

  module _ {letters seen : List ℕ} {x y at i : ℕ} (T : Trail S rows s t old letters seen x y at i) where
    place_few : at < S.n * S.n
    place_few = rw T.stands (place_lt S.n S.n x y T.x_lt T.y_lt)

    module _ (unseen : get_or seen at 0 ≡ 0) where
      left : size (S.n * S.n) (λ p. eqb (get_or seen p 0) 0) ≡ suc (size (S.n * S.n) (λ p. eqb (get_or seen p 0) 0 && not (eqb at p)))
      left = size_without (S.n * S.n) _ at place_few (eq-eqb _ 0 unseen)

      pub trail_few : i < S.n * S.n
      trail_few = omega (arith, left, T.count)

      pub trail_room : S.n * S.n ≤ length old → i < length letters
      trail_room h = omega (arith, trail_few, T.long)

      module _ (a r q : ℕ) (d : S.edge x a r ≡ true) (e : S.edge y a q ≡ true) (room : i < length letters) where
        here : get_or (set seen at (i + 1)) at 0 ≡ i + 1
        here = get_or-set_same seen at (i + 1) 0 (omega (arith, place_few, T.wide))

        marked : (u v j : ℕ) → u < S.n → v < S.n → get_or (set seen at (i + 1)) (place S.n u v) 0 ≡ j + 1
            → (j < i + 1) × Way S s (set letters i a) j (i + 1) u r × Way S t (set letters i a) j (i + 1) v q
        marked u v j hu hv f = elim (ℕ_discrete (place S.n u v) at) [
          | yes k ↦
              let g : j ≡ i = omega (arith, sym here ∙ rw k at f) in
              let (b, c) = place_same S.n u v x y hv T.y_lt (k ∙ T.stands) in
              let w : Way S s (set letters i a) i (i + 1) x r = way_next a r (omega arith) room d (way_here i x T.s_path) in
              rw (g, b, c) (omega arith, w, way_next a q (omega arith) room e (way_here i y T.t_path))
          | no k ↦
              let (h, w, z) = T.marked u v j hu hv (sym (get_or-set_other seen at (place S.n u v) (i + 1) 0 k) ∙ f) in
              (omega arith, way_next a r (omega arith) room d w, way_next a q (omega arith) room e z)
        ]

        unmarked : (p : ℕ) → eqb (get_or (set seen at (i + 1)) p 0) 0 ≡ (eqb (get_or seen p 0) 0 && not (eqb at p))
        unmarked p = elim (ℕ_discrete p at) [
          | yes k ↦ rw (k, here, eq-eqb at at refl, and-false) (ne_eqb (i + 1) 0 (λ z. omega arith))
          | no k ↦ rw (get_or-set_other seen at p (i + 1) 0 k, ne_eqb at p (λ z. k (sym z)), and-true)
        ]

        pub trail_next : pair rows r q ≡ true
            → Trail S rows s t old (set letters i a) (set seen at (i + 1)) r q (place S.n r q) (i + 1)
        trail_next f = record {
          stands = refl;
          x_lt = W.to_lt x a r d;
          y_lt = W.to_lt y a q e;
          lives = f;
          long = length-set letters i a ∙ T.long;
          kept = drop-set-lt (i + 1) letters i a (omega arith) ∙ rw (← drop-drop 1 i letters, ← drop-drop 1 i old, T.kept);
          s_path = (way_next {S = S} a r (omega arith) room d (way_start T.s_path)).on;
          t_path = (way_next {S = S} a q (omega arith) room e (way_start T.t_path)).on;
          wide = simp length-set T.wide;
          marked = marked;
          count = rw (size_cong (S.n * S.n) _ _ (λ p _. unmarked p)) (omega (arith, left, T.count));
        }

    -- the pair has been come to before: it is marked by the stem
    pub trail_end : ¬ (get_or seen at 0 ≡ 0) → S.n * S.n ≤ length old
        → let stem = get_or seen at 0 - 1 in (stem < i) × Ringed S s t stem (i - stem) old letters
    trail_end ne room =
        let stem = get_or seen at 0 - 1 in
        let e : get_or seen (place S.n x y) 0 ≡ stem + 1 = rw (← T.stands) (omega (arith, ne)) in
        let (h, w, z) = T.marked x y stem T.x_lt T.y_lt e in
        let whole : stem + (i - stem) ≡ i = omega arith in
        let cycle : drop stem (take i letters) ≡ take (i - stem) (drop stem letters) =
        rw whole at (drop-take stem (i - stem) letters) in (
          h,
          record {
            turns = omega arith;
            short = omega (arith, T.count);
            s_lasso = record { knot = x; reached = w.to; back = rw cycle at w.on };
            t_lasso = record { knot = y; reached = z.to; back = rw cycle at z.on };
            kept = rw whole T.kept;
          },
        )
