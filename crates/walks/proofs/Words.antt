-- What a word does over successor sets: the sets that its beginnings lead to, and the possible states at its positions.
-- Assumes nothing.
use Prim.Native.Nat.{ℕ, suc, ◌+◌, ◌-◌, ◌*◌, ◌%◌, ◌^◌, ◌<◌}
use mathlib.Core.Bool.{Bool, true, false, ◌&&◌, and-true, and-false}
use mathlib.Core.Path.{◌≡◌, refl, sym, ◌∙◌, ap}
use mathlib.Core.List.{List, [], ◌∷◌, ◌++◌}
use native.Mathlib.Omega.{arith}
use native.Mathlib.Numerals.{add-one}
use lib.Dec.{eqb}
use lib.ListN.{length, get_or, take, drop}
use lib.Seq.{take-suc, take-length, drop-cons, drop-length}
use borrow.Author.Tests.{lt-ltb, eqb-true, eq-eqb, ne_eqb}
use Rattle.bitset.specs.Sets.{any}
use Rattle.bitset.specs.Numbers.{has, set_of}
use Rattle.bitset.proofs.Tests.{and_in, and_out, same_test}
use Rattle.bitset.proofs.Below.{any_in, with_any, any_cong, any_none}
use Rattle.bitset.proofs.Bits.{has_empty, has_lt, fits, some_member, set_of_lt, set_of_has, has_set_of, set_of_cong, has_shl}
use Rattle.semiautomata.specs.Semiautomaton.{Semiautomaton}
use Rattle.semiautomata.specs.Walks.{spells, step, reach, survivors, walkable, possible}
use Rattle.semiautomata.specs.Successors.{set_at}
use Rattle.semiautomata.specs.Means.{means}
use Rattle.semiautomata.specs.declared.successors.Successors.{Successors}
use Rattle.semiautomata.proofs.Computed.{reach_append, walkable_reach}
use Rattle.semiautomata.proofs.BySets.{edge_is}
use Rattle.walks.proofs.Steps.{means_within, step_members}

-- a set is empty exactly where its number is 0
module _ (n : ℕ) (p : ℕ → Bool) {x : ℕ} (e : x ≡ set_of n p) where
  members : any n (has x) ≡ any n p
  members = any_cong n (has x) p (λ t g. rw (e, has_set_of, lt-ltb t n g))

  pub some_of : ¬ (x ≡ 0) → any n p ≡ true
  some_of h = sym members ∙ some_member n x (omega (arith, h)) (rw e (set_of_lt n p))

  pub none_of : x ≡ 0 → any n p ≡ false
  none_of h = sym members ∙ rw h (any_none n (has 0) (λ t _. has_empty t))

-- where r holds, e implies q
led : (n : ℕ) (r : Bool) (q p e : ℕ → Bool) → (r ≡ true → (t : ℕ) → e t ≡ true → q t ≡ true)
    → (r && any n (λ t. (q t && p t) && e t)) ≡ (r && any n (λ t. e t && p t))
led n false q p e f = refl
led n true q p e f = any_cong n _ _ (λ t h. swap (q t) (p t) (e t) (f refl t))
  where
    swap : (q p e : Bool) → (e ≡ true → q ≡ true) → ((q && p) && e) ≡ (e && p)
    swap q p true f = rw (f refl, and-true)
    swap q p false f = and-false (q && p)

module _ (S : Semiautomaton) (X : ℕ → Bool) (w : List ℕ) (i : ℕ) (h : i < length w) where
  -- one letter more
  reach_next : reach S X (take (suc i) w) ≡ step S (reach S X (take i w)) (get_or w i 0)
  reach_next = rw (take-suc w i 0 h) (reach_append S X (take i w) (get_or w i 0 ∷ []))

  pub next_set : (here next : ℕ) → here ≡ set_of S.n (reach S X (take i w)) → next ≡ set_of S.n (step S (has here) (get_or w i 0))
      → next ≡ set_of S.n (reach S X (take (i + 1) w))
  next_set here next e d = rw (add-one, reach_next, d, e) (set_of_cong _ _ _ (λ t _. step_members S _ _ t))

  -- one letter back: what the letter leads to from a state reached before it is reached by it
  possible_back : (s : ℕ) → s < S.n
      → (reach S X (take i w) s && any S.n (λ t. possible S X w (suc i) t && S.edge s (get_or w i 0) t)) ≡ possible S X w i s
  unfolding possible spells step
  possible_back s g = rw (drop-cons w i 0 h, reach_next)
      (led S.n (reach S X (take i w) s) (step S (reach S X (take i w)) (get_or w i 0)) (spells S (drop (suc i) w)) (S.edge s (get_or w i 0))
      (λ r t e. any_in S.n (λ s. reach S X (take i w) s && S.edge s (get_or w i 0) t) s g (and_in _ _ r e)))

-- the same over successor sets and numbers
pub back_set : (x : Successors) (X : ℕ → Bool) (w : List ℕ) (i here next out : ℕ) → i < length w → get_or w i 0 < x.m
    → here ≡ set_of x.n (reach (means x) X (take i w)) → next ≡ set_of x.n (possible (means x) X w (i + 1))
    → out ≡ set_of x.n (λ s. has here s && any x.n (λ t. has next t && has (set_at x.m x.sets.now s (get_or w i 0)) t))
    → out ≡ set_of x.n (possible (means x) X w i)
back_set x X w i here next out h g e d o =
    o ∙ set_of_cong x.n _ _ (λ s k. rw (e, has_set_of, lt-ltb s x.n k, ← possible_back (means x) X w i h s k)
    (ap (λ (b : Bool). reach (means x) X (take i w) s && b)
    (any_cong x.n _ _ (λ t l. rw (d, has_set_of, lt-ltb t x.n l, add-one, edge_is x.n x.m x.starts x.sets.now s (get_or w i 0) t k g)))))

-- after the last letter, what is reached is possible
pub possible_last : (S : Semiautomaton) (X : ℕ → Bool) (w : List ℕ) (x : ℕ) → reach S X (take (length w) w) x ≡ possible S X w (length w) x
unfolding possible spells
possible_last S X w x = rw (drop-length w, and-true)

-- A WORD FROM ONE STATE, whose set is `1 << s`

abbrev pub alone : ℕ → ℕ
alone s = (1 * 2 ^ s) % 2 ^ 64

module _ (x : Successors) {s : ℕ} (h : s < x.n) where
  alone_has : (t : ℕ) → has (alone s) t ≡ eqb s t
  alone_has t = has_shl 64 s t (omega (arith, x.fit.states))

  pub alone_lt : alone s < 2 ^ x.n
  alone_lt = fits x.n (alone s) (λ t g. alone_has t ∙ ne_eqb s t (λ e. omega arith))

  module _ (w : List ℕ) where
    alone_walkable : walkable (means x) (has (alone s)) w ≡ spells (means x) w s
    unfolding walkable
    alone_walkable = same_test _ _
        (with_any x.n _ (λ t g e. let (d, q) = and_out (has (alone s) t) (spells (means x) w t) e in
        rw (eqb-true s t (rw (alone_has t) at d)) q))
        (λ e. any_in x.n _ s h (and_in _ _ (alone_has s ∙ eq-eqb s s refl) e))

    -- s can walk the word exactly where the word leads somewhere
    alone_reach : any x.n (reach (means x) (has (alone s)) w) ≡ spells (means x) w s
    alone_reach = sym (walkable_reach (means x) (means_within x) (has (alone s)) (λ t e. has_lt x.n (alone s) t alone_lt e) w)
        ∙ alone_walkable

  -- the same of one letter more
  pub alone_step : (w : List ℕ) {r : ℕ} → r ≡ set_of x.n (reach (means x) (has (alone s)) w) → (a : ℕ)
      → any x.n (step (means x) (has r) a) ≡ spells (means x) (w ++ (a ∷ [])) s
  alone_step w e a =
      rw e (any_cong x.n _ _ (λ t _. step_members (means x) _ a t))
      ∙ rw (reach_append (means x) (has (alone s)) w (a ∷ [])) at (alone_reach (w ++ (a ∷ [])))

-- WHO CAN WALK A WORD: all the empty one, and any other one by its last letter

pub survivors_none : (S : Semiautomaton) (set : ℕ) → set < 2 ^ S.n → (w : List ℕ) → length w ≡ 0
    → set ≡ set_of S.n (survivors S (has set) w)
unfolding spells
survivors_none S set h [] e = sym (set_of_cong S.n _ _ (λ s _. and-true (has set s)) ∙ set_of_has S.n set h)
survivors_none S set h (a ∷ w) e = absurd (omega arith)

pub by_last : (w : List ℕ) → ¬ (length w ≡ 0) → take (length w - 1) w ++ (get_or w (length w - 1) 0 ∷ []) ≡ w
by_last w h = let e : suc (length w - 1) ≡ length w = omega (arith, h) in sym (take-suc w (length w - 1) 0 (omega arith))
    ∙ rw e (take-length w)
