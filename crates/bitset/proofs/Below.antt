-- Laws of the numbers below n that are in a set: whether there is one, how many there are, which is the least.
-- Assumes nothing.
use mathlib.Core.Bool.{Bool, true, false, not, ◌&&◌, ◌||◌, false≢true, and-true, or-false, or_assoc}
use mathlib.Core.Path.{◌≡◌, refl, sym, ◌∙◌, ap, ap₂}
use mathlib.Core.Logic.{◌⊎◌, inl, inr}
use Prim.Native.Nat.{ℕ, zero, suc, ◌+◌, ◌≤◌, ◌<◌}
use native.Mathlib.Omega.{arith}
use native.Mathlib.Nat.{suc_inj}
use native.Mathlib.Decide.{ℕ_discrete}
use lib.Dec.{eqb}
use borrow.Author.Tests.{eq-eqb, ne_eqb, eqb-true}
use Rattle.bitset.specs.Sets.{any, one_if, size, least}
use Rattle.bitset.proofs.Tests.{and_in, and_out, or_left, or_right, or_cases, not_so, decided, same_test}

-- SOME MEMBER

pub any_in : (n : ℕ) (p : ℕ → Bool) (x : ℕ) → x < n → p x ≡ true → any n p ≡ true
unfolding any
any_in zero p x h e = absurd (omega arith)
any_in (suc n) p x h e =
    elim (ℕ_discrete x n) [ yes q ↦ or_right (any n p) (p n) (rw q at e) | no q ↦ or_left (any n p) (p n) (any_in n p x (omega arith) e) ]

pub any_out : (n : ℕ) (p : ℕ → Bool) → any n p ≡ true → (x : ℕ) × (x < n) × (p x ≡ true)
unfolding any
any_out zero p e = absurd (false≢true e)
any_out (suc n) p e =
    elim (or_cases (any n p) (p n) e) [ inl q ↦ let (x, h, q) = any_out n p q in (x, omega arith, q) | inr q ↦ (n, omega arith, q) ]

-- the same, handed on
pub with_any : {C : Type 0} (n : ℕ) (p : ℕ → Bool) → ((x : ℕ) → x < n → p x ≡ true → C) → any n p ≡ true → C
with_any n p k e = let (x, h, q) = any_out n p e in k x h q

-- from the front
pub any_low : (n : ℕ) (p : ℕ → Bool) → any (suc n) p ≡ (p 0 || any n (λ x. p (suc x)))
unfolding any
any_low zero p = sym (or-false (p 0))
any_low (suc n) p = rw (any_low n p, or_assoc)

pub any_none : (n : ℕ) (p : ℕ → Bool) → ((x : ℕ) → x < n → p x ≡ false) → any n p ≡ false
unfolding any
any_none zero p h = refl
any_none (suc n) p h = ap₂ ◌||◌ (any_none n p (λ x k. h x (omega arith))) (h n (omega arith))

pub any_not : (n : ℕ) (p : ℕ → Bool) → any n p ≡ false → (x : ℕ) → x < n → p x ≡ false
any_not n p e x h = not_so (p x) (λ q. false≢true (sym e ∙ any_in n p x h q))

pub any_cong : (n : ℕ) (p q : ℕ → Bool) → ((x : ℕ) → x < n → p x ≡ q x) → any n p ≡ any n q
unfolding any
any_cong zero p q h = refl
any_cong (suc n) p q h = ap₂ ◌||◌ (any_cong n p q (λ x k. h x (omega arith))) (h n (omega arith))

-- some number below n where z is added if b
pub any_add : (n : ℕ) (p : ℕ → Bool) (z : ℕ) (b : Bool) → z < n → any n (λ s. p s || eqb z s && b) ≡ (any n p || b)
any_add n p z b h =
    same_test _ _
    (with_any n _ (λ s g e.
    elim (or_cases (p s) _ e) [
      | inl d ↦ or_left (any n p) b (any_in n p s g d)
      | inr d ↦
          or_right (any n p) b (and_out (eqb z s) b d).1
    ]))
    (λ e. elim (or_cases (any n p) b e) [
      | inl d ↦ with_any n p (λ s g c. any_in n _ s g (or_left (p s) _ c)) d
      | inr d ↦ any_in n _ z h (or_right (p z) _ (and_in (eqb z z) b (eq-eqb z z refl) d))
    ])

-- HOW MANY

-- the least number and the rest
pub size_low : (n : ℕ) (p : ℕ → Bool) → size (suc n) p ≡ one_if (p 0) + size n (λ x. p (suc x))
unfolding size
size_low zero p = omega arith
size_low (suc n) p = omega (arith, size_low n p)

pub size_cong : (n : ℕ) (p q : ℕ → Bool) → ((x : ℕ) → x < n → p x ≡ q x) → size n p ≡ size n q
unfolding size
size_cong zero p q h = refl
size_cong (suc n) p q h = ap₂ ◌+◌ (size_cong n p q (λ x k. h x (omega arith))) (ap one_if (h n (omega arith)))

pub size_none : (n : ℕ) (p : ℕ → Bool) → ((x : ℕ) → x < n → p x ≡ false) → size n p ≡ 0
unfolding size
size_none zero p h = refl
size_none (suc n) p h = rw (size_none n p (λ x k. h x (omega arith)), h n (omega arith))

pub size_empty : (n : ℕ) (p : ℕ → Bool) → size n p ≡ 0 → (x : ℕ) → x < n → p x ≡ false
unfolding size
size_empty zero p e x h = absurd (omega arith)
size_empty (suc n) p e x h = elim (ℕ_discrete x n) [ yes q ↦ rw q (last (p n) refl) | no q ↦ size_empty n p (omega arith) x (omega arith) ]
  where
    last : (b : Bool) → p n ≡ b → p n ≡ false
    last true q = absurd (omega (arith, ap one_if q))
    last false q = q

pub size_some : (n : ℕ) (p : ℕ → Bool) → 0 < size n p → (x : ℕ) × (x < n) × (p x ≡ true)
size_some n p h = elim (decided (any n p)) [ inl e ↦ any_out n p e | inr e ↦ absurd (omega (arith, size_none n p (any_not n p e))) ]

-- exactly one: x is in p, and no other below n
pub record Sole (n : ℕ) (p : ℕ → Bool) (x : ℕ) : Type 0 where
  pub below : x < n
  pub member : p x ≡ true
  pub only : (y : ℕ) → y < n → p y ≡ true → y ≡ x

pub sole_size : (n : ℕ) (p : ℕ → Bool) (x : ℕ) → Sole n p x → size n p ≡ 1
unfolding size
sole_size zero p x s = absurd (omega arith)
sole_size (suc n) p x s = elim (ℕ_discrete x n) [
  | yes q ↦ rw (size_none n p (λ y h. not_so (p y) (λ e. omega (arith, s.only y (omega arith) e))), rw q at s.member)
  | no q ↦ rw (sole_size n p x (record { below = omega arith; member = s.member; only = λ y h. s.only y (omega arith) }), last q)
]
  where
    last : ¬ (x ≡ n) → p n ≡ false
    last q = not_so (p n) (λ e. q (sym (s.only n (omega arith) e)))

pub size_sole : (n : ℕ) (p : ℕ → Bool) → size n p ≡ 1 → (x : ℕ) × Sole n p x
unfolding size
size_sole zero p e = absurd (omega arith)
size_sole (suc n) p e = go (p n) refl (size_sole n p)
  where
    go : (b : Bool) → p n ≡ b → (size n p ≡ 1 → (x : ℕ) × Sole n p x) → (x : ℕ) × Sole (suc n) p x
    go true q ih =
        let none : size n p ≡ 0 = omega (arith, ap one_if q) in (
          n,
          record {
            below = omega arith;
            member = q;
            only =
                λ y h d. elim (ℕ_discrete y n) [ yes r ↦ r | no r ↦ absurd (false≢true (sym (size_empty n p none y (omega arith)) ∙ d)) ];
          },
        )
    go false q ih =
        let (x, s) = ih (omega (arith, ap one_if q)) in (
          x,
          record {
            below = omega arith;
            member = s.member;
            only =
                λ y h d. elim (ℕ_discrete y n) [ yes r ↦ absurd (false≢true (sym (rw r q) ∙ d)) | no r ↦ s.only y (omega arith) d ];
          },
        )

-- there are two or more where two different ones are members
pub size_two : (n : ℕ) (p : ℕ → Bool) (x y : ℕ) → x < n → y < n → p x ≡ true → p y ≡ true → ¬ (x ≡ y) → 1 < size n p
size_two n p x y a b c d ne = go (size n p) refl
  where
    go : (k : ℕ) → size n p ≡ k → 1 < size n p
    go zero e = absurd (false≢true (sym (size_empty n p e x a) ∙ c))
    go (suc zero) e = let (z, s) = size_sole n p e in absurd (ne (s.only x a c ∙ sym (s.only y b d)))
    go (suc (suc k)) e = omega arith

-- and where there are two or more, there is another beside any x
pub size_other : (n : ℕ) (p : ℕ → Bool) → 1 < size n p → (x : ℕ) → (y : ℕ) × (p y ≡ true) × ¬ (y ≡ x)
unfolding size
size_other zero p h x = absurd (omega arith)
size_other (suc n) p h x = go (decided (p n)) (size_other n p)
  where
    go : (p n ≡ true) ⊎ (p n ≡ false) → (1 < size n p → (x : ℕ) → (y : ℕ) × (p y ≡ true) × ¬ (y ≡ x)) → (y : ℕ) × (p y ≡ true) × ¬ (y ≡ x)
    go (inr e) ih = ih (omega (arith, ap one_if e)) x
    go (inl e) ih = elim (ℕ_discrete n x) [
      | no q ↦ (n, e, q)
      | yes q ↦
          let (y, k, d) = size_some n p (omega (arith, ap one_if e)) in (y, d, omega arith)
    ]

-- without one member, the size is one less
pub size_without : (n : ℕ) (p : ℕ → Bool) (x : ℕ) → x < n → p x ≡ true → size n p ≡ suc (size n (λ t. p t && not (eqb x t)))
unfolding size
size_without zero p x h e = absurd (omega arith)
size_without (suc n) p x h e = elim (ℕ_discrete x n) [
  | yes q ↦ rw (eq-eqb x n q, rw q at e)
      (omega (arith, size_cong n (λ t. p t && not (eqb x t)) p (λ t g. rw (ne_eqb x t (λ r. omega arith), and-true))))
  | no q ↦ rw (ne_eqb x n q, and-true) (omega (arith, size_without n p x (omega arith) e))
]

-- where q has all that p has
size_mono : (n : ℕ) (p q : ℕ → Bool) → ((x : ℕ) → p x ≡ true → q x ≡ true) → size n p ≤ size n q
unfolding size
size_mono zero p q h = omega arith
size_mono (suc n) p q h = omega (arith, size_mono n p q h, last (p n) (q n) (h n))
  where
    last : (a b : Bool) → (a ≡ true → b ≡ true) → one_if a ≤ one_if b
    last true b h = rw (h refl) (omega arith)
    last false b h = omega arith

-- where q has all that p has, and z besides
pub size_fewer : (n : ℕ) (p q : ℕ → Bool) → ((x : ℕ) → p x ≡ true → q x ≡ true) → (z : ℕ) → z < n → p z ≡ false → q z ≡ true
    → size n p < size n q
size_fewer n p q h z k e f = omega (arith, size_without n q z k f, size_mono n p (λ x. q x && not (eqb z x)) kept)
  where
    kept : (x : ℕ) → p x ≡ true → (q x && not (eqb z x)) ≡ true
    kept x g = and_in _ _ (h x g) (rw (not_so (eqb z x) (λ d. false≢true (sym e ∙ (rw (← eqb-true z x d) at g)))))

-- THE LEAST

pub least_sole : (n : ℕ) (p : ℕ → Bool) (x : ℕ) → Sole n p x → least n p ≡ x
unfolding least
least_sole zero p x s = absurd (omega arith)
least_sole (suc n) p zero s = rw s.member
least_sole (suc n) p (suc x) s = go (p 0) refl (least_sole n (λ y. p (suc y)) x (record {
  below = omega arith;
  member = s.member;
  only = λ y h e. suc_inj (s.only (suc y) (omega arith) e);
}))
  where
    go : (b : Bool) → p 0 ≡ b → least n (λ y. p (suc y)) ≡ x → least (suc n) p ≡ suc x
    go true q ih = absurd (omega (arith, s.only 0 (omega arith) q))
    go false q ih = rw (q, ih)

-- what is known of the least member
pub record Least (p : ℕ → Bool) (x : ℕ) : Type 0 where
  pub member : p x ≡ true
  pub none_below : (y : ℕ) → y < x → p y ≡ false

pub least_is : (n : ℕ) (p : ℕ → Bool) (x : ℕ) → x < n → p x ≡ true → (least n p ≤ x) × Least p (least n p)
unfolding least
least_is zero p x h e = absurd (omega arith)
least_is (suc n) p x h e = go (p 0) refl x h e (least_is n (λ y. p (suc y)))
  where
    Ih : Type 0
    Ih = (x : ℕ) → x < n → p (suc x) ≡ true → (least n (λ y. p (suc y)) ≤ x) × Least (λ y. p (suc y)) (least n (λ y. p (suc y)))

    go : (b : Bool) → p 0 ≡ b → (x : ℕ) → x < suc n → p x ≡ true → Ih → (least (suc n) p ≤ x) × Least p (least (suc n) p)
    go true q x h e ih = rw q (omega arith, record { member = q; none_below = λ y k. absurd (omega arith) })
    go false q zero h e ih = absurd (false≢true (sym q ∙ e))
    go false q (suc x) h e ih =
        let (l, s) = ih x (omega arith) e in
        rw q (omega arith, record { member = s.member; none_below = λ y k. below y k s.none_below })
      where
        below : (y : ℕ) → y < suc (least n (λ y. p (suc y))) → ((z : ℕ) → z < least n (λ y. p (suc y)) → p (suc z) ≡ false) → p y ≡ false
        below zero k f = q
        below (suc y) k f = f y (omega arith)

pub least_any : (n : ℕ) (p : ℕ → Bool) → any n p ≡ true → (least n p < n) × Least p (least n p)
least_any n p = with_any n p λ x h e. let (l, s) = least_is n p x h e in (omega arith, s)
