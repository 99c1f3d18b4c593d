-- Numbering pairs of states, and the pigeonhole.
-- Assumes nothing.
use Prim.Native.Nat.{ℕ, zero, suc, ◌+◌, ◌-◌, ◌*◌, ◌/◌, ◌≤◌, ◌<◌, min, max}
use mathlib.Core.Bool.{decide, decide_iff, Bool-discrete, true}
use mathlib.Core.Path.{◌≡◌, refl, ap}
use mathlib.Core.Logic.{◌⊎◌, inl, inr, ◌≢◌}
use native.Mathlib.Omega.{arith}
use native.Mathlib.Decide.{ℕ_discrete, map_dec}
use native.Mathlib.Nat.{suc-mul, mul-suc, div-eq_of_eq-mul_left}
use Rattle.bitset.specs.Sets.{any}
use Rattle.bitset.proofs.Below.{any_in, any_out}

-- BLOCKS: block h begins at B h and has size h places. With B h = h × n these number all pairs below n, with B h = h (h - 1) / 2 the
-- unordered pairs of different numbers.
module _ (B size : ℕ → ℕ) (next : (h : ℕ) → B (suc h) ≡ B h + size h) where
  block_mono : (h N : ℕ) → h ≤ N → B h ≤ B N
  block_mono h zero l = let e : h ≡ 0 = omega arith in rw e (omega arith)
  block_mono h (suc N) l =
      elim (ℕ_discrete h (suc N)) [ yes e ↦ rw e (omega arith) | no e ↦ omega (arith, next N, block_mono h N (omega arith)) ]

  block_lt : (N h l : ℕ) → h < N → l < size h → B h + l < B N
  block_lt N h l a b = omega (arith, next h, block_mono (suc h) N a)

  block_inj : (h l h' l' : ℕ) → l < size h → l' < size h' → B h + l ≡ B h' + l' → (h ≡ h') × (l ≡ l')
  block_inj h l h' l' a b e =
      let x : ¬ (h < h') = λ k. omega (arith, block_lt h' h l k a) in
      let y : ¬ (h' < h) = λ k. omega (arith, block_lt h h' l' k b) in
      let z : h ≡ h' = omega arith in
      (z, omega (arith, ap B z))

-- the number of unordered pairs of different numbers below n
abbrev pub triangle : ℕ → ℕ
triangle zero = 0
triangle (suc n) = triangle n + n

triangle_twice : (n : ℕ) → suc n * n ≡ triangle (suc n) * 2
triangle_twice zero = refl
triangle_twice (suc n) = omega (arith, triangle_twice n, suc-mul (suc n) (suc n), mul-suc (suc n) n)

pub triangle_is : (n : ℕ) → n * (n - 1) / 2 ≡ triangle n
triangle_is zero = refl
triangle_is (suc n) = let e : suc n - 1 ≡ n = omega arith in div-eq_of_eq-mul_left (omega arith) (rw e (triangle_twice n))

abbrev pub unordered : ℕ → ℕ → ℕ
unordered x y = triangle (max x y) + min x y

pub unordered_lt : (n x y : ℕ) → x < n → y < n → x ≢ y → unordered x y < triangle n
unordered_lt n x y a b ne = block_lt triangle (λ h. h) (λ h. refl) n (max x y) (min x y) (omega arith) (omega arith)

same_ends : (x y x' y' : ℕ) → max x y ≡ max x' y' → min x y ≡ min x' y' → ((x ≡ x') × (y ≡ y')) ⊎ ((x ≡ y') × (y ≡ x'))
same_ends x y x' y' p q = elim (ℕ_discrete x x') [ yes r ↦ inl (r, omega arith) | no r ↦ inr (omega arith, omega arith) ]

pub unordered_inj : (x y x' y' : ℕ) → x ≢ y → x' ≢ y' → unordered x y ≡ unordered x' y' → ((x ≡ x') × (y ≡ y')) ⊎ ((x ≡ y') × (y ≡ x'))
unordered_inj x y x' y' a b e =
    let (p, q) = block_inj triangle (λ h. h) (λ h. refl) (max x y) (min x y) (max x' y') (min x' y') (omega arith) (omega arith) e in
    same_ends x y x' y' p q

pub ordered : ℕ → ℕ → ℕ → ℕ
ordered n x y = x * n + y

module _ (n x y : ℕ) (a : x < n) (b : y < n) where
  pub ordered_lt : ordered n x y < n * n
  unfolding ordered
  ordered_lt = block_lt (λ h. h * n) (λ _. n) (λ h. suc-mul h n) n x y a b

  pub ordered_inj : (x' y' : ℕ) → y' < n → ordered n x y ≡ ordered n x' y' → (x ≡ x') × (y ≡ y')
  unfolding ordered
  ordered_inj x' y' b' e = block_inj (λ h. h * n) (λ _. n) (λ h. suc-mul h n) x y x' y' b b' e

-- THE PIGEONHOLE: two of the first N + 1 values of f are equal
pub record Repeat (N : ℕ) (f : ℕ → ℕ) : Type 0 where
  pub i : ℕ
  pub j : ℕ
  pub before : i < j
  pub within : j ≤ N
  pub same : f i ≡ f j

dec_below : (N : ℕ) (P : ℕ → Type 0) → ((i : ℕ) → Dec (P i)) → Dec ((i : ℕ) × (i < N) × P i)
dec_below N P d =
    map_dec
    (λ e. let (i, h, q) = any_out N (λ i. decide (d i)) e in (i, h, (decide_iff (d i)).0 q))
    (λ (i, h, q). any_in N (λ i. decide (d i)) i h ((decide_iff (d i)).1 q))
    (Bool-discrete (any N (λ i. decide (d i))) true)

-- b in the place of a
move : ℕ → ℕ → ℕ → ℕ
move a b x = elim (ℕ_discrete x a) [ yes _ ↦ b | no _ ↦ x ]

module _ (a b : ℕ) where
  move_lt : (x : ℕ) → x ≤ a → b ≤ a → x ≢ b → move a b x < a
  unfolding move
  move_lt x h k ne = go (ℕ_discrete x a)
    where
      go : (d : Dec (x ≡ a)) → elim d [ yes _ ↦ b | no _ ↦ x ] < a
      go (yes q) = omega arith
      go (no q) = omega arith

  move_inj : (x y : ℕ) → x ≢ b → y ≢ b → move a b x ≡ move a b y → x ≡ y
  unfolding move
  move_inj x y hx hy = go (ℕ_discrete x a) (ℕ_discrete y a)
    where
      go : (d : Dec (x ≡ a)) (e : Dec (y ≡ a)) → ◌≡◌ {A = ℕ} (elim d [ yes _ ↦ b | no _ ↦ x ]) (elim e [ yes _ ↦ b | no _ ↦ y ]) → x ≡ y
      go (yes q) (yes r) h = omega arith
      go (yes q) (no r) h = omega arith
      go (no q) (yes r) h = omega arith
      go (no q) (no r) h = h

pub repeats : (N : ℕ) (f : ℕ → ℕ) → ((i : ℕ) → i ≤ N → f i < N) → Repeat N f
repeats zero f below = absurd (omega (arith, below 0 (omega arith)))
repeats (suc N) f below = go (dec_below (suc N) (λ i. f i ≡ v) (λ i. ℕ_discrete (f i) v)) (repeats N (λ i. move N v (f i)))
  where
    v : ℕ
    v = f (suc N)

    go : Dec ((i : ℕ) × (i < suc N) × (f i ≡ v)) → (((i : ℕ) → i ≤ N → move N v (f i) < N) → Repeat N (λ i. move N v (f i)))
        → Repeat (suc N) f
    go (yes h) again = record { i = h.0; j = suc N; before = h.1; within = omega arith; same = h.2 }
    go (no none) again =
        let other : (i : ℕ) → i ≤ N → f i ≢ v = λ i h e. none (i, omega arith, e) in
        let r = again (λ i h.
        move_lt N v (f i) (omega (arith, below i (omega arith))) (omega (arith, below (suc N) (omega arith))) (other i h)) in
        record {
          i = r.i;
          j = r.j;
          before = r.before;
          within = omega arith;
          same = move_inj N v (f r.i) (f r.j) (other r.i (omega arith)) (other r.j r.within) r.same;
        }
