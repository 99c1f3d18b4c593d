-- The numbers of the critical sets written one after the other, and what they come to.
-- Assumes nothing.
use mathlib.Core.Bool.{true}
use mathlib.Core.Path.{◌≡◌, refl, sym, ◌∙◌, ap}
use mathlib.Core.Logic.{◌⊎◌, inl, inr, ⊎_elim}
use mathlib.Core.List.{List, ◌++◌}
use Prim.Native.Nat.{ℕ, ◌+◌, ◌*◌, ◌≤◌, ◌<◌}
use native.Mathlib.Decide.{ℕ_discrete, dec_lt}
use native.Mathlib.Nat.{zero-mul, suc-mul}
use native.Mathlib.Numerals.{add-one}
use native.Mathlib.Omega.{arith}
use lib.ListN.{length, get_or, set, length-set, take, drop, length-drop, take-append-drop}
use lib.Seq.{get_or-set_same, get_or-set_other, get_or-take, get_or-drop, length-take-le, drop-set-lt, ext_get_or}
use Rattle.bitset.specs.Numbers.{has, set_of}
use Rattle.semiautomata.specs.Predictability.{Critical, initial, fork}
use Rattle.semiautomata.specs.Access.{accessible}
use Rattle.semiautomata.specs.Successors.{place, set_at}
use Rattle.semiautomata.specs.Means.{means}
use Rattle.semiautomata.specs.declared.successors.Successors.{Successors}
use Rattle.semiautomata.proofs.Places.{place_same}
use Rattle.semiautomata.proofs.BySets.{place_lt}
use Rattle.pairs.specs.Lifetimes.{Lifetimes}
use Rattle.lookahead.specs.Rivals.{Rivalry}
use Rattle.needs.specs.Needs.{Says, Of, place_of, Filled}
use Rattle.needs.specs.inner.Entering.{Entered, ForksEntered}
use Rattle.needs.proofs.Saying.{says_initial, says_fork}

module _ {numbers : List ℕ} {m : ℕ} {sets : List ℕ} {reached : ℕ} where
  forks_none : (from : ℕ) {old : List ℕ} → ForksEntered numbers m sets reached from from old old
  forks_none from = record { long = refl; entered = λ q a g h l. absurd (omega arith); kept = λ i _. refl }

  pub forks_first : {old : List ℕ} → ForksEntered numbers m sets reached 0 (0 * m) old old
  forks_first = rw (zero-mul m) (forks_none 0)

  -- a row of them begins
  pub forks_row : (q : ℕ) {old : List ℕ} → ForksEntered numbers m sets reached (q * m) (place m q 0) old old
  forks_row q = let e : place m q 0 ≡ q * m = omega arith in rw e (forks_none (q * m))

  -- one number more
  pub forks_next : (from q a : ℕ) {v : ℕ} {old needs : List ℕ} → from ≤ place m q a → a < m → place m q a + 1 < length needs
      → Entered numbers (set_at m sets q a) (has reached q) v → ForksEntered numbers m sets reached from (place m q a) old needs
      → ForksEntered numbers m sets reached from (place m q (a + 1)) old (set needs (place m q a + 1) v)
  forks_next from q a {v} {old} {needs} f g room e k = record {
    long = length-set needs (place m q a + 1) v ∙ k.long;
    entered = λ r b h x l. elim (ℕ_discrete (place m r b) (place m q a)) [
      | yes z ↦
          let (x, y) = place_same m r b q a h g z in
          rw (x, y, get_or-set_same needs (place m q a + 1) v 0 room) e
      | no z ↦
          let other : ¬ (place m r b + 1 ≡ place m q a + 1) = λ y. z (omega arith) in
          rw (get_or-set_other needs (place m q a + 1) (place m r b + 1) v 0 other) (k.entered r b h x (omega (arith, l, z)))
    ];
    kept = λ i h.
        let other : ¬ (i ≡ place m q a + 1) = ⊎_elim (λ x y. omega (arith, x, y, f)) (λ x y. omega (arith, x, y)) h in
        let before : (i ≤ from) ⊎ (place m q a < i) = ⊎_elim (λ x. inl x) (λ x. inr (omega (arith, x))) h in
        get_or-set_other needs (place m q a + 1) i v 0 other ∙ k.kept i before;
  }

  -- first up to one place, then on to another
  pub forks_then : {x y z : ℕ} {old mid needs : List ℕ} → x ≤ y → y ≤ z → ForksEntered numbers m sets reached x y old mid
      → ForksEntered numbers m sets reached y z mid needs → ForksEntered numbers m sets reached x z old needs
  forks_then {x} {y} {z} {old} {mid} {needs} h g k l = record {
    long = l.long ∙ k.long;
    entered = λ q a b c d. elim (dec_lt (place m q a) y) [
      | yes e ↦ rw (l.kept (place m q a + 1) (inl (omega arith))) (k.entered q a b c e)
      | no e ↦ l.entered q a b (omega arith) d
    ];
    kept = λ i c.
        l.kept i (⊎_elim (λ d. inl (omega (arith, d, h))) (λ d. inr d) c)
        ∙ k.kept i (⊎_elim (λ d. inl d) (λ d. inr (omega (arith, d, g))) c);
  }

  -- a row of them is over
  pub forks_rows : (q : ℕ) {old mid needs : List ℕ} → ForksEntered numbers m sets reached 0 (q * m) old mid
      → ForksEntered numbers m sets reached (q * m) (place m q m) mid needs → ForksEntered numbers m sets reached 0 ((q + 1) * m) old needs
  forks_rows q k l = let e : (q + 1) * m ≡ place m q m = rw add-one (suc-mul q m) in rw e (forks_then (omega arith) (omega arith) k l)

-- all numbers together
module _ (x : Successors) {rival numbers : List ℕ} (G : Rivalry (means x) rival) (L : Lifetimes (means x) rival numbers)
    {reached : ℕ} (R : reached ≡ set_of x.n (accessible (means x))) where
  pub filled : {v : ℕ} {old needs : List ℕ} → x.n * x.m + 1 ≤ length old → Entered numbers x.starts true v
      → ForksEntered numbers x.m x.sets.now reached 0 (x.n * x.m) (set old 0 v) needs → Filled (means x) old needs
  filled {v} {old} {needs} room e k = record {
    numbers = take (x.n * x.m + 1) needs;
    tells = record { long = count; says = says };
    is = sym (take-append-drop (x.n * x.m + 1) needs)
        ∙ ap (λ (rest : List ℕ). take (x.n * x.m + 1) needs ++ rest) (rw count (rest ∙ drop-set-lt (x.n * x.m + 1) old 0 v (omega arith)));
  }
    where
      count : length (take (x.n * x.m + 1) needs) ≡ x.n * x.m + 1
      count = length-take-le (x.n * x.m + 1) needs (omega (arith, room, k.long, length-set old 0 v))

      rest : drop (x.n * x.m + 1) needs ≡ drop (x.n * x.m + 1) (set old 0 v)
      rest = ext_get_or 0 _ _ (rw (length-drop, length-drop, k.long)) λ i h.
          rw (get_or-drop, get_or-drop) (k.kept (x.n * x.m + 1 + i) (inr (omega arith)))

      says : (T : Critical) → Of (means x) T
          → Says (means x) T (get_or (take (x.n * x.m + 1) needs) (place_of (means x) T) 0)
      says initial _ =
          let z : get_or (take (x.n * x.m + 1) needs) 0 0 ≡ v =
          get_or-take (x.n * x.m + 1) needs 0 0 (omega arith) ∙ k.kept 0 (inl (omega arith)) ∙ get_or-set_same old 0 v 0 (omega (arith, room)) in
          rw z (says_initial x G L e)
      says (fork q a) (h, g) =
          let l = place_lt x.n x.m q a h g in
          rw (get_or-take (x.n * x.m + 1) needs (place x.m q a + 1) 0 (omega (arith, l)))
          (says_fork x G L R q a h g (k.entered q a g (omega arith) l))
