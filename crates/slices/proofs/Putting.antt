-- Bytes put into a lent buffer, one thing after the other.
-- Assumes nothing.
use Prim.Native.Nat.{ℕ, zero, suc, ◌+◌, ◌-◌, ◌≤◌, ◌<◌}
use mathlib.Core.Path.{◌≡◌, refl, sym, ◌∙◌}
use mathlib.Core.List.{List, [], ◌++◌}
use native.Mathlib.Numerals.{add-one}
use native.Mathlib.Omega.{arith}
use lib.ListN.{length, length-append}
use Rattle.slices.specs.declared.Filling.{Filling}
use Rattle.slices.specs.Appending.{each, Appended}
use Rattle.slices.specs.Filling.{HasRoom, Puts, filled}
use Rattle.slices.proofs.Appending.{appended_none, appended_on, appended_long}

-- what is put is appended
pub puts_appended : {f : Filling} {a : List ℕ} {g : Filling} → Puts f a g → Appended f.out.now f.at a g.at g.out.now
unfolding filled
puts_appended p = record { room = record { fits = p.room.fits }; end = p.end; is = p.is }

pub puts_long : {f : Filling} {a : List ℕ} {g : Filling} → Puts f a g → length g.out.now ≡ length f.out.now
puts_long p = appended_long (puts_appended p)

-- .. also in the buffer that its owner has back
pub puts_back : {f : Filling} {a : List ℕ} {g : Filling} → Puts f a g → {out : List ℕ} → (f.out.ghost_name ≡ g.out.ghost_name → out ≡ g.out.now)
    → Appended f.out.now f.at a g.at out
puts_back p same = let q = puts_appended p in record { room = q.room; end = q.end; is = same (sym p.same_buffer) ∙ q.is }

filled_is : {old : List ℕ} {at : ℕ} {a : List ℕ} {r : ℕ} {out : List ℕ} → Appended old at a r out → out ≡ filled old at a
unfolding filled
filled_is p = p.is

pasted_in : (old : List ℕ) (at : ℕ) (a : List ℕ) → at + length a ≤ length old → Appended old at a (at + length a) (filled old at a)
unfolding filled
pasted_in old at a h = record { room = record { fits = h }; end = refl; is = refl }

pub length_filled : (old : List ℕ) (at : ℕ) (a : List ℕ) → at + length a ≤ length old → length (filled old at a) ≡ length old
length_filled old at a h = appended_long (pasted_in old at a h)

pub filled_none : (old : List ℕ) (at : ℕ) → at ≤ length old → filled old at [] ≡ old
filled_none old at h = sym (filled_is (appended_none at h))

-- a, and b behind it
pub filled_on : (old : List ℕ) (at : ℕ) (a : List ℕ) (j : ℕ) (b : List ℕ) → at + length a ≤ length old → j ≡ at + length a
    → j + length b ≤ length old
    → filled (filled old at a) j b ≡ filled old at (a ++ b)
filled_on old at a j b h e g =
    rw e (filled_is (appended_on (pasted_in old at a h) (pasted_in (filled old at a) _ b (rw (length_filled old at a h) (omega (arith, e, g))))))

-- the laws by which one thing is put after the other
pub ruleset filling = (length_filled, filled_none, filled_on, length-append)

pub puts_none : (f : Filling) → f.at ≤ length f.out.now → Puts f [] f
puts_none f h = grind (arith, filling)

pub puts_on : {f g h : Filling} {a b : List ℕ} → Puts f a g → Puts g b h → Puts f (a ++ b) h
puts_on p q = grind (arith, filling)

pub room_on : {f g : Filling} {a b : List ℕ} → Puts f a g → HasRoom f (a ++ b) → HasRoom g b
room_on p h = grind (arith, filling)

-- FOR EACH NUMBER

each_le : {A : Type 0} (i d : ℕ) (x : ℕ → List A) → length (each i x) ≤ length (each (d + i) x)
unfolding each
each_le i zero x = let e : zero + i ≡ i = omega arith in rw e (omega arith)
each_le i (suc d) x = let e : suc d + i ≡ suc (d + i) = omega arith in rw (e, length-append) (omega (arith, each_le i d x))

-- the first i are put: there is room for the next where there is room for all, and with it the first i + 1 are put
module _ (x : ℕ → List ℕ) (i : ℕ) {f g : Filling} (p : Puts f (each i x) g) where
  pub each_room : (n : ℕ) → HasRoom f (each n x) → i < n → HasRoom g (x i)
  unfolding each
  each_room n h k =
      let e : n - suc i + suc i ≡ n = omega arith in
      let l : length (each (suc i) x) ≤ length (each n x) = rw e at (each_le (suc i) (n - suc i) x) in
      room_on p (record { fits = omega (arith, h.fits) })

  pub each_next : {h : Filling} → Puts g (x i) h → Puts f (each (i + 1) x) h
  unfolding each
  each_next q = rw add-one (puts_on p q)
