-- Taking the members of a set one by one: while a rest is left, its least member is taken and struck.
-- Assumes nothing.
use mathlib.Core.Bool.{Bool, true, false, not, ◌&&◌, ◌||◌, and-true, and-false, or-true, or-false, and-not_self, and-or_distrib_right}
use mathlib.Core.Path.{◌≡◌, refl, sym, ◌∙◌, ap}
use Prim.Native.Nat.{ℕ, ◌+◌, ◌-◌, ◌*◌, ◌%◌, ◌^◌, ◌≤◌, ◌<◌}
use native.Mathlib.Nat.{lt_of_lt_of_le}
use native.Mathlib.Omega.{arith}
use lib.Dec.{eqb}
use lib.Bits.{bit_and, bit_or}
use lib.Count.{ones, ones-le, ones-ones, count_trailing_zeros}
use lib.Pow.{pow_mono}
use borrow.Author.Tests.{eqb-true}
use Rattle.bitset.specs.Sets.{any, size}
use Rattle.bitset.specs.Numbers.{has, set_of}
use Rattle.bitset.specs.Members.{Taken}
use Rattle.bitset.proofs.Tests.{and_in, and_out}
use Rattle.bitset.proofs.Below.{any_in, any_none, any_cong, any_add}
use Rattle.bitset.proofs.Bits.{has_or, has_empty, has_high, has_lt, fits, has_insert, is_set_of, same_members}
use Rattle.bitset.proofs.Counts.{ones_size, trailing_least, trailing_member, has_strike, ones_strike}

-- WHAT HOLDS BETWEEN TWO TURNS: `-first` before the first, `-next` after one more, `-all` what it comes to

-- the rest of a set of numbers below n
pub record Left (n set rest : ℕ) : Type 0 where
  pub width : n ≤ 64
  pub whole : set < 2 ^ n
  pub below : rest < 2 ^ n
  pub inside : (k : ℕ) → has rest k ≡ true → has set k ≡ true

pub left_first : (n set : ℕ) → n ≤ 64 → set < 2 ^ n → Left n set set
left_first n set h g = record { width = h; whole = g; below = g; inside = λ k e. e }

-- k has been taken
abbrev pub taken : (set rest k : ℕ) → Bool
taken set rest k = has set k && not (has rest k)

-- no number taken passes q
pub record Passed (set rest : ℕ) (q : ℕ → Bool) : Type 0 where
  pub fails : (k : ℕ) → (taken set rest k && q k) ≡ false

pub passed_first : (set : ℕ) (q : ℕ → Bool) → Passed set set q
passed_first set q = record { fails = λ k. rw (and-not_self (has set k)) }

-- out has the numbers taken that pass q
pub record Picked (set rest : ℕ) (q : ℕ → Bool) (out : ℕ) : Type 0 where
  pub members : (k : ℕ) → has out k ≡ (taken set rest k && q k)

pub picked_first : (set : ℕ) (q : ℕ → Bool) → Picked set set q 0
picked_first set q = record { members = λ k. rw (has_empty, and-not_self (has set k)) }

-- out is the union of the sets f s over the numbers s taken
pub record Joined (n set rest : ℕ) (f : ℕ → ℕ) (out : ℕ) : Type 0 where
  pub members : (t : ℕ) → has out t ≡ any n (λ s. taken set rest s && has (f s) t)

pub joined_first : (n set : ℕ) (f : ℕ → ℕ) → Joined n set set f 0
joined_first n set f = record { members = λ t. rw has_empty (sym (any_none n _ (λ s h. rw (and-not_self (has set s))))) }

-- so many turns have been made
pub record Counted (set rest turns : ℕ) : Type 0 where
  pub sum : turns + ones rest ≡ ones set

pub counted_first : (set : ℕ) → Counted set set 0
counted_first set = record { sum = omega arith }

-- the turns fit a word
pub counted_le : {n set rest turns : ℕ} → Left n set rest → Counted set rest turns → turns ≤ n
counted_le {n} {set} l c = omega (arith, ones-le n set l.whole)

-- ONE TURN

struck : (h r b : Bool) → (b ≡ true → h ≡ true) → (h && not (r && not b)) ≡ (h && not r || b)
struck h r true f = rw (f refl, and-false, or-true)
struck h r false f = rw (and-true, or-false)

-- at z alone a test is what it is at z
at_one : (z k : ℕ) (q : ℕ → Bool) → (eqb z k && q k) ≡ (eqb z k && q z)
at_one z k q = go (eqb z k) refl
  where
    go : (b : Bool) → eqb z k ≡ b → (eqb z k && q k) ≡ (eqb z k && q z)
    go true e = rw (eqb-true z k e)
    go false e = rw e

module _ {n set rest s left : ℕ} (l : Left n set rest) (t : Taken rest s left) where
  in_word : rest < 2 ^ 64
  in_word = lt_of_lt_of_le l.below (pow_mono l.width)

  is_trailing : s ≡ count_trailing_zeros 64 rest
  is_trailing = t.is ∙ sym (trailing_least 64 rest)

  least_left : has rest s ≡ true
  least_left = rw is_trailing (trailing_member 64 rest t.some in_word)

  pub next_in : has set s ≡ true
  next_in = l.inside _ least_left

  pub next_below : s < n
  next_below = has_lt n rest _ l.below least_left

  others_in : (k : ℕ) → has left k ≡ true → has rest k ≡ true
  others_in k e = (and_out (has rest k) _ (sym (t.others k) ∙ e)).0

  pub left_next : Left n set left
  left_next = record {
    width = l.width;
    whole = l.whole;
    below = fits n left (λ k h. rw (t.others k, has_high n rest k l.below h) refl);
    inside = λ k e. l.inside k (others_in k e);
  }

  -- taken: before, or as the least of the rest
  pub taken_with : (k : ℕ) → taken set left k ≡ (taken set rest k || eqb s k)
  taken_with k = rw (t.others k) (struck (has set k) (has rest k) (eqb s k) (λ e. rw (eqb-true s k e) at next_in))

  -- and passing q
  taken_next : (q : ℕ → Bool) (k : ℕ) → (taken set left k && q k) ≡ (taken set rest k && q k || eqb s k && q s)
  taken_next q k = rw (taken_with k, and-or_distrib_right, at_one s k q)

  -- some number taken passes q: one taken before, or the least of the rest
  pub any_next : (q : ℕ → Bool) → any n (λ k. taken set left k && q k) ≡ (any n (λ k. taken set rest k && q k) || q s)
  any_next q = any_cong n _ _ (λ k _. taken_next q k) ∙ any_add n _ _ _ next_below

  pub passed_next : {q : ℕ → Bool} → q s ≡ false → Passed set rest q → Passed set left q
  passed_next {q} e o = record { fails = λ k. rw (taken_next q k, o.fails k, e, and-false) }

  -- or the search ends
  pub passed_hit : (q : ℕ → Bool) → q s ≡ true → any n (λ k. has set k && q k) ≡ true
  passed_hit q e = any_in n _ _ next_below (and_in _ _ next_in e)

  pub picked_with : {q : ℕ → Bool} {out : ℕ} → q s ≡ true → Picked set rest q out → Picked set left q (bit_or out ((1 * 2 ^ s) % 2 ^ 64))
  picked_with {q} e o = record {
    members = λ k. rw (has_insert 64 _ _ k (lt_of_lt_of_le next_below l.width), o.members k, taken_next q k, e, and-true);
  }

  pub picked_without : {q : ℕ → Bool} {out : ℕ} → q s ≡ false → Picked set rest q out → Picked set left q out
  picked_without {q} e o = record { members = λ k. rw (taken_next q k, e, and-false, or-false) (o.members k) }

  pub joined_next : {f : ℕ → ℕ} {out : ℕ} → Joined n set rest f out → Joined n set left f (bit_or out (f s))
  joined_next {f} j = record {
    members = λ k. rw (has_or, j.members k) (sym (any_next (λ x. has (f x) k)));
  }

  struck_out : left ≡ bit_and rest (rest - 1)
  struck_out = same_members _ _ (λ k. rw (has_strike 64 rest k in_word, ← is_trailing) (t.others k))

  pub counted_next : {turns : ℕ} → Counted set rest turns → Counted set left (turns + 1)
  counted_next c = record { sum = rw struck_out (omega (arith, ones_strike n rest t.some l.below, c.sum)) }

-- WHEN NONE IS LEFT

-- a number whose members are p, and none of them n or more
all_set_of : (n : ℕ) (p : ℕ → Bool) (r : ℕ) → ((t : ℕ) → has r t ≡ p t) → ((t : ℕ) → n ≤ t → p t ≡ false) → r ≡ set_of n p
all_set_of n p r f g = is_set_of n p r (fits n r (λ t h. f t ∙ g t h)) (λ t h. f t)

module _ {n set rest : ℕ} (l : Left n set rest) (e : rest ≡ 0) where
  pub taken_all : (k : ℕ) → taken set rest k ≡ has set k
  taken_all k = rw (e, has_empty, and-true)

  pub passed_all : {q : ℕ → Bool} → Passed set rest q → any n (λ k. has set k && q k) ≡ false
  passed_all o = any_none n _ (λ k h. rw (← taken_all k) (o.fails k))

  pub picked_all : {q : ℕ → Bool} {out : ℕ} → Picked set rest q out → out ≡ set_of n (λ k. has set k && q k)
  picked_all o = all_set_of n _ _ (λ k. rw (← taken_all k) (o.members k)) (λ k h. rw (has_high n set k l.whole h))

  pub joined_all : {f : ℕ → ℕ} {out : ℕ} → ((s : ℕ) → s < n → f s < 2 ^ n) → Joined n set rest f out
      → out ≡ set_of n (λ t. any n (λ s. has set s && has (f s) t))
  joined_all {f} b j =
      all_set_of n _ _ (λ t. j.members t ∙ any_cong n _ _ (λ s h. rw (taken_all s)))
      (λ t h. any_none n _ (λ s g. rw (has_high n (f s) t (b s g) h, and-false)))

  pub counted_all : {turns : ℕ} → Counted set rest turns → turns ≡ size n (has set)
  counted_all c = omega (arith, ap ones e, ones-ones 0, ones_size n set l.whole)
