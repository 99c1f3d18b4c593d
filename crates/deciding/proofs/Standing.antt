-- What a record tells: its base as a number, and the states that its held letters lead to, which are some exactly where it is sound.
-- Assumes nothing.
use Prim.Native.Nat.{ℕ, ◌+◌, ◌^◌, ◌≤◌, ◌<◌, min}
use mathlib.Core.Bool.{Bool, true, false, cond, ◌&&◌}
use mathlib.Core.Path.{◌≡◌, sym, ◌∙◌, fun_ext}
use mathlib.Core.Logic.{◌⊎◌, inl, inr}
use mathlib.Core.List.{List}
use native.Mathlib.Omega.{arith}
use lib.Dec.{eqb, ltb, leb}
use lib.ListN.{length, take, drop, length-drop}
use lib.Seq.{length-take-le}
use borrow.Author.Tests.{ltb-true, ltb-false, le-ltb, leb-true, eqb-true, ne_eqb}
use Rattle.bitset.specs.Sets.{any, single}
use Rattle.bitset.specs.Numbers.{has, set_of}
use Rattle.bitset.proofs.Tests.{and_out, decided}
use Rattle.bitset.proofs.Below.{any_out}
use Rattle.bitset.proofs.Bits.{fits, has_set_of}
use Rattle.semiautomata.specs.Semiautomaton.{Semiautomaton}
use Rattle.semiautomata.specs.Walks.{reach, walkable}
use Rattle.semiautomata.specs.Means.{means}
use Rattle.semiautomata.specs.declared.successors.Successors.{Successors}
use Rattle.streaming.specs.PlainWalk.{limit}
use Rattle.streaming.specs.Streaming.{Rec, base, rules, every, sound}
use Rattle.semiautomata.proofs.Computed.{walkable_reach}
use Rattle.semiautomata.proofs.Positions.{single_is}
use Rattle.walks.specs.Walking.{Letters}
use Rattle.walks.proofs.Steps.{means_within}
use Rattle.walks.proofs.Words.{some_of, none_of}
use Rattle.records.specs.Bytes.{held_from, held_count, decode, tidy}
use Rattle.records.specs.Taking.{regular}
use Rattle.records.proofs.Bytes.{tidy_out}
use Rattle.deciding.specs.Deciding.{standing}
use Rattle.deciding.specs.inner.Parts.{base_set}
use Rattle.deciding.proofs.Letters.{reach_letters}

-- THE BASE

-- what the rules say of a record's numbers
pub record Keeps (n k fed last held : ℕ) : Type 0 where
  pub fed_le : fed ≤ limit
  pub held_is : held ≡ min fed k
  pub last_lt : k ≤ fed → last < n

pub keeps_in : (n k fed last held : ℕ) → regular n k fed last held ≡ true → Keeps n k fed last held
keeps_in n k fed last held e =
    let (a, e) = and_out (leb fed limit) _ e in
    let (b, e) = and_out (eqb held (min fed k)) _ e in
    let (c, _) = and_out (cond (ltb fed k) (eqb last 255) (ltb last n)) _ e in
    record { fed_le = leb-true _ _ a; held_is = eqb-true _ _ b; last_lt = λ h. ltb-true last n (rw (le-ltb fed k h) at c) }

module _ (x : Successors) (k : ℕ) (r : Rec) (last_lt : k ≤ r.fed → r.last < x.n) where
  alone : r.last < 64 → has (set_of 64 (single r.last)) ≡ single r.last
  alone h = fun_ext (λ t. has_set_of 64 (single r.last) t ∙ go t (decided (ltb t 64)))
    where
      go : (t : ℕ) → (ltb t 64 ≡ true) ⊎ (ltb t 64 ≡ false) → (ltb t 64 && single r.last t) ≡ single r.last t
      go t (inl e) = rw e
      go t (inr e) = rw e (sym (ne_eqb r.last t (λ d. omega (arith, ltb-false t 64 e))))

  base_is : has (base_set k x.starts r.fed r.last) ≡ base (means x) k r
  unfolding base_set base
  base_is = go (decided (ltb r.fed k))
    where
      go : (ltb r.fed k ≡ true) ⊎ (ltb r.fed k ≡ false) → has (base_set k x.starts r.fed r.last) ≡ base (means x) k r
      go (inl e) = rw (base_set, e)
      go (inr e) = rw (base_set, e) (alone (omega (arith, last_lt (ltb-false _ _ e), x.fit.states)))

  base_lt : base_set k x.starts r.fed r.last < 2 ^ x.n
  unfolding base_set
  base_lt = go (decided (ltb r.fed k))
    where
      go : (ltb r.fed k ≡ true) ⊎ (ltb r.fed k ≡ false) → base_set k x.starts r.fed r.last < 2 ^ x.n
      go (inl e) = rw (base_set, e) x.starts_fit
      go (inr e) =
          let h = last_lt (ltb-false _ _ e) in
          rw (base_set, e) (fits x.n _ (λ t g. rw (alone (omega (arith, x.fit.states))) (ne_eqb r.last t (λ d. omega arith))))

  -- as the code has it
  module _ {from fed : ℕ} (e : from ≡ base_set k x.starts fed r.last) (d : fed ≡ r.fed) where
    pub from_is : has from ≡ base (means x) k r
    from_is = rw (e, d) base_is

    pub from_lt : from < 2 ^ x.n
    from_lt = rw (e, d) base_lt

  pub base_below : (s : ℕ) → base (means x) k r s ≡ true → s < x.n
  unfolding base
  base_below s = go (decided (ltb r.fed k))
    where
      go : (ltb r.fed k ≡ true) ⊎ (ltb r.fed k ≡ false) → base (means x) k r s ≡ true → s < x.n
      go (inl e) q = (means_within x).initial_lt s (rw (base, e) at q)
      go (inr e) q = let q = single_is r.last s (rw (base, e) at q) in rw q (last_lt (ltb-false _ _ e))

-- THE HELD LETTERS

pub held_length : (k : ℕ) (bytes : List ℕ) → held_from + k ≤ length bytes → tidy k bytes ≡ true
    → length (take (held_count bytes) (drop held_from bytes)) ≡ held_count bytes
held_length k bytes room t = let c = (tidy_out k bytes t).count in
    length-take-le (held_count bytes) (drop held_from bytes) (rw length-drop (omega arith))

module _ (S : Semiautomaton) (k : ℕ) (bytes : List ℕ) (room : held_from + k ≤ length bytes) where
  pub rules_are : tidy k bytes ≡ true
      → every (rules S k (decode bytes)) ≡ regular S.n k (decode bytes).fed (decode bytes).last (held_count bytes)
  rules_are t = rw (held_length k bytes room t)

  pub standing_untidy : tidy k bytes ≡ false → 0 ≡ standing S k bytes
  unfolding standing
  standing_untidy e = rw e

  pub standing_against : tidy k bytes ≡ true → regular S.n k (decode bytes).fed (decode bytes).last (held_count bytes) ≡ false
      → 0 ≡ standing S k bytes
  unfolding standing
  standing_against t e = rw (t, rules_are t ∙ e)

  pub standing_is : tidy k bytes ≡ true → regular S.n k (decode bytes).fed (decode bytes).last (held_count bytes) ≡ true
      → standing S k bytes ≡ set_of S.n (reach S (base S k (decode bytes)) (decode bytes).held)
  unfolding standing
  standing_is t e = rw (t, rules_are t ∙ e)

pub standing_walked : (x : Successors) (k : ℕ) (bytes : List ℕ) → held_from + k ≤ length bytes → tidy k bytes ≡ true
    → regular x.n k (decode bytes).fed (decode bytes).last (held_count bytes) ≡ true
    → {from fed r : ℕ} {part : List ℕ} → from ≡ base_set k x.starts fed (decode bytes).last → fed ≡ (decode bytes).fed
    → part ≡ (decode bytes).held
    → r ≡ set_of x.n (reach (means x) (has from) part) → r ≡ standing (means x) k bytes
standing_walked x k bytes room t e d f q o =
    o ∙ rw (q, from_is x k (decode bytes) (keeps_in _ _ _ _ _ e).last_lt d f) (sym (standing_is (means x) k bytes room t e))

-- the same where some state is reached
pub record Standing (S : Semiautomaton) (k : ℕ) (bytes : List ℕ) (here : ℕ) : Type 0 where
  pub tidied : tidy k bytes ≡ true
  pub is_sound : sound S k (decode bytes) ≡ true
  pub keeps : Keeps S.n k (decode bytes).fed (decode bytes).last (held_count bytes)
  pub long : length (decode bytes).held ≡ held_count bytes
  pub letters : Letters S.m (decode bytes).held
  pub is : here ≡ set_of S.n (reach S (base S k (decode bytes)) (decode bytes).held)
  pub some : any S.n (reach S (base S k (decode bytes)) (decode bytes).held) ≡ true

-- such a record is not full if it does not say so
pub not_full : {S : Semiautomaton} {k here : ℕ} {bytes : List ℕ} → Standing S k bytes here → {fed : ℕ} → fed ≡ (decode bytes).fed
    → ¬ (fed ≡ 1000000) → (decode bytes).fed < limit
unfolding limit
not_full s e h = omega (arith, s.keeps.fed_le, h)

module _ (x : Successors) (k : ℕ) (bytes : List ℕ) (room : held_from + k ≤ length bytes) {here : ℕ}
    (at : here ≡ standing (means x) k bytes) where
  abbrev S : Semiautomaton
  S = means x

  passes : Bool
  passes = regular S.n k (decode bytes).fed (decode bytes).last (held_count bytes)

  walks : passes ≡ true → walkable S (base S k (decode bytes)) (decode bytes).held ≡ any S.n
      (reach S (base S k (decode bytes)) (decode bytes).held)
  unfolding passes
  walks e = walkable_reach S (means_within x) (base S k (decode bytes)) (base_below x k (decode bytes) (keeps_in _ _ _ _ _ e).last_lt)
      (decode bytes).held

  pub standing_some : ¬ (here ≡ 0) → Standing S k bytes here
  unfolding sound passes
  standing_some h = go (decided (tidy k bytes)) (decided passes)
    where
      go : (tidy k bytes ≡ true) ⊎ (tidy k bytes ≡ false) → (passes ≡ true) ⊎ (passes ≡ false) → Standing S k bytes here
      go (inr t) e = absurd (h (at ∙ sym (standing_untidy S k bytes room t)))
      go (inl t) (inr e) = absurd (h (at ∙ sym (standing_against S k bytes room t e)))
      go (inl t) (inl e) =
          let q = at ∙ standing_is S k bytes room t e in
          let some = some_of S.n _ q h in
          let (t', _, m) = any_out S.n _ some in
          record {
            tidied = t;
            is_sound = rw (rules_are S k bytes room t ∙ e) (walks e ∙ some);
            keeps = keeps_in _ _ _ _ _ e;
            long = held_length k bytes room t;
            letters = reach_letters S (means_within x) (base S k (decode bytes)) (decode bytes).held t' m;
            is = q;
            some = some;
          }

  pub standing_none : here ≡ 0 → (tidy k bytes && sound S k (decode bytes)) ≡ false
  unfolding sound passes
  standing_none h = go (decided (tidy k bytes)) (decided passes)
    where
      go : (tidy k bytes ≡ true) ⊎ (tidy k bytes ≡ false) → (passes ≡ true) ⊎ (passes ≡ false)
          → (tidy k bytes && sound S k (decode bytes)) ≡ false
      go (inr t) e = rw t
      go (inl t) (inr e) = rw (t, sound, rules_are S k bytes room t ∙ e)
      go (inl t) (inl e) = rw (t, sound, rules_are S k bytes room t ∙ e)
          (walks e ∙ none_of S.n _ (at ∙ standing_is S k bytes room t e) h)
