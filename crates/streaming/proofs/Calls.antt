-- Laws of calls that keep a state: two that agree call by call agree in all their replies.
-- Assumes nothing.
use Prim.Native.Nat.{ℕ, ◌≤◌}
use mathlib.Core.Bool.{Bool, true, false, not, cond, ◌&&◌}
use mathlib.Core.Path.{◌≡◌, refl}
use mathlib.Core.Logic.{◌⊎◌, ◌↔◌, inl, inr}
use mathlib.Core.List.{List, [], ◌∷◌}
use native.Mathlib.Omega.{arith}
use lib.Dec.{eqb}
use borrow.Author.Tests.{eqb-false, not-true}
use Rattle.bitset.proofs.Tests.{decided, and_out}
use Rattle.refusals.specs.Checks.{Check, first_of, Numbered}
use Rattle.refusals.proofs.First.{split, Passed, passed_first, first_passed}
use Rattle.streaming.specs.Calls.{refused, Result, checked, replies, final}

-- the number is that of one of the checks
abbrev pub Among : ℕ → List Check → Type 0
Among number [] = ⊥
Among number (c ∷ cs) = (number ≡ c.number) ⊎ Among number cs

pub among_numbered : (b r : ℕ) (cs : List Check) → Numbered b cs → Among r cs → (1 ≤ r) × (r ≤ b)
among_numbered b r [] n a = elim a [ ]
among_numbered b r (c ∷ cs) n (inl e) = let s = split b c cs n in (omega (arith, s.low), omega (arith, s.high))
among_numbered b r (c ∷ cs) n (inr a) = among_numbered b r cs (split b c cs n).rest a

-- what a call with checks is: refused by one of them, with the state kept, or done
pub data Course {A : Type 0} (cs : List Check) (state : A) (done : Result A) : Result A → Type 0 where
  refuses : (number : ℕ) → Among number cs → Course cs state done (record { reply = refused number; state = state })
  passes : Passed cs → Course cs state done done

pub course : {A : Type 0} (cs : List Check) (state : A) (done : Result A) → Course cs state done (checked cs state done)
course [] state done = passes tt
course (c ∷ cs) state done = go c.applies refl (course cs state done)
  where
    more : (s : Result _) → c.applies ≡ false → Course cs state done s → Course (c ∷ cs) state done s
    more s e (refuses r a) = refuses r (inr a)
    more s e (passes p) = passes (e, p)

    go : (b : Bool) → c.applies ≡ b → Course cs state done (checked cs state done)
        → Course (c ∷ cs) state done (cond b (record { reply = refused c.number; state = state }) (checked cs state done))
    go true e o = refuses c.number (inl refl)
    go false e o = more (checked cs state done) e o

-- A REFUSAL BEHIND THE CHECKS

-- a number that no check of a list has; of a list that is written down this computes
abbrev pub lacks : ℕ → List Check → Bool
lacks x [] = true
lacks x (c ∷ cs) = not (eqb x c.number) && lacks x cs

lacks_among : (x : ℕ) (cs : List Check) → lacks x cs ≡ true → ¬ Among x cs
lacks_among x [] l a = elim a [ ]
lacks_among x (c ∷ cs) l (inl e) = eqb-false x c.number (not-true _ (and_out _ _ l).0) e
lacks_among x (c ∷ cs) l (inr a) = lacks_among x cs (and_out (not (eqb x c.number)) _ l).1 a

pub passed_done : {A : Type 0} (cs : List Check) (state : A) (done : Result A) → Passed cs → checked cs state done ≡ done
passed_done [] state done _ = refl
passed_done (c ∷ cs) state done (e, p) = rw e (passed_done cs state done p)

-- it is given exactly if no check applies and what is done gives it
pub behind : {A : Type 0} (x b : ℕ) (cs : List Check) → lacks x cs ≡ true → Numbered b cs → (state : A) (done : Result A)
    → ((checked cs state done).reply ≡ refused x) ↔ ((first_of cs ≡ 0) × (done.reply ≡ refused x))
behind {A} x b cs l n state done =
    (go (checked cs state done) (course cs state done), λ (z, e). rw (passed_done cs state done (first_passed b cs n z)) e)
  where
    go : (s : Result A) → Course cs state done s → s.reply ≡ refused x → (first_of cs ≡ 0) × (done.reply ≡ refused x)
    go s (refuses r a) e = let same : r ≡ x = cc in absurd (lacks_among x cs l (rw same at a))
    go s (passes p) e = (passed_first cs p, e)

-- two calls reply the same and leave states that R relates
pub record Agree {A B : Type 0} (R : A → B → Type 0) (s : Result A) (t : Result B) : Type 0 where
  pub reply : s.reply ≡ t.reply
  pub state : R s.state t.state

module _ {A B : Type 0} (R : A → B → Type 0) where
  pub checked_agree : (cs : List Check) (a : A) (b : B) (s : Result A) (t : Result B) → R a b → (Passed cs → Agree R s t)
      → Agree R (checked cs a s) (checked cs b t)
  checked_agree [] a b s t r h = h tt
  checked_agree (c ∷ cs) a b s t r h = go (decided c.applies) (checked_agree cs a b s t r)
    where
      go : (c.applies ≡ true) ⊎ (c.applies ≡ false) → ((Passed cs → Agree R s t) → Agree R (checked cs a s) (checked cs b t))
          → Agree R (checked (c ∷ cs) a s) (checked (c ∷ cs) b t)
      go (inl e) ih = rw e (record { reply = refl; state = r })
      go (inr e) ih = rw e (ih (λ p. h (e, p)))

  module _ (f : A → ℕ → Result A) (g : B → ℕ → Result B) (agree : (a : A) (b : B) (c : ℕ) → R a b → Agree R (f a c) (g b c)) where
    pub replies_agree : (cs : List ℕ) (a : A) (b : B) → R a b → replies f a cs ≡ replies g b cs
    replies_agree [] a b r = refl
    replies_agree (c ∷ cs) a b r = let s = agree a b c r in rw (s.reply, replies_agree cs (f a c).state (g b c).state s.state)

    pub final_agree : (cs : List ℕ) (a : A) (b : B) → R a b → R (final f a cs) (final g b cs)
    final_agree [] a b r = r
    final_agree (c ∷ cs) a b r = final_agree cs (f a c).state (g b c).state (agree a b c r).state
