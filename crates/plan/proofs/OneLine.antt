-- One line entered: its state is put into the set at its place.
-- Assumes nothing.
use Prim.Native.Nat.{ℕ, ◌+◌, ◌*◌, ◌^◌, ◌%◌, ◌<◌}
use mathlib.Core.Bool.{true, false, ◌&&◌, ◌||◌, true≢false, or-false}
use mathlib.Core.Path.{◌≡◌, refl, sym, ◌∙◌}
use mathlib.Core.Logic.{◌⊎◌, inl, inr}
use mathlib.Core.List.{List}
use native.Mathlib.Nat.{mod-eq_of_lt}
use lib.Dec.{eqb}
use lib.ListN.{get_or, set}
use lib.Bits.{bit_or}
use Rattle.std.specs.Prelude.{◌≢◌}
use Rattle.std.proofs.lemmas.List.{set-get_or}
use borrow.Author.Tests.{eqb-true, eq-eqb, ne_eqb}
use Rattle.bitset.specs.Numbers.{has}
use Rattle.bitset.proofs.Tests.{decided}
use Rattle.bitset.proofs.Bits.{has_insert, shl_one, same_members}
use Rattle.plan.specs.declared.Line.{Line}
use Rattle.plan.specs.inner.Entering.{LineEntered}

-- a set stays the same with a state put in exactly if the state is there
pub same_with : (v t : ℕ) → t < 64 → eqb (bit_or v ((1 * 2 ^ t) % 2 ^ 64)) v ≡ has v t
same_with v t h = elim (decided (has v t)) [
  | inl e ↦ rw e (eq-eqb _ _ (same_members _ _ (λ x. has_insert 64 v t x h ∙ stays e x (decided (eqb t x)))))
  | inr e ↦ rw e (ne_eqb (bit_or v ((1 * 2 ^ t) % 2 ^ 64)) v (λ d.
      let member : has (bit_or v ((1 * 2 ^ t) % 2 ^ 64)) t ≡ true = rw (has_insert 64 v t t h, e, eq-eqb t t refl) in
      let out : has (bit_or v ((1 * 2 ^ t) % 2 ^ 64)) t ≡ false = rw d e in
      true≢false (sym member ∙ out)))
]
  where
    stays : has v t ≡ true → (x : ℕ) → (eqb t x ≡ true) ⊎ (eqb t x ≡ false) → (has v x || eqb t x) ≡ has v x
    stays e x (inl d) = let is : t ≡ x = eqb-true t x d in rw (d, ← is, e)
    stays e x (inr d) = rw (d, or-false)

module _ (m party : ℕ) (l : Line) (sets : List ℕ) where
  abbrev at : ℕ
  at = (l.from * m + l.letter) % 2048

  -- the set at the line's place with its state put in
  abbrev more : ℕ
  more = bit_or (get_or sets at 0) ((1 * 2 ^ (l.to % 64)) % 2 ^ 64)

  pub line_entered : {put : ℕ} → (l.party ≡ party → put ≡ more) → (l.party ≢ party → put ≡ get_or sets at 0)
      → LineEntered m party l sets (set sets at put) (eqb l.party party && eqb more (get_or sets at 0))
  line_entered mine other = record {
    of_party = λ p t e.
        rw (mine e, eq-eqb l.party party e, mod-eq_of_lt p, mod-eq_of_lt t, same_with _ _ t, shl_one 64 l.to t) (refl, refl);
    of_another = λ n. rw (other n, ne_eqb l.party party n) (set-get_or sets at 0, refl);
  }
