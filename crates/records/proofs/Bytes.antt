-- The layout of a record: its numbers are read back as they are written, and what tidy bytes are.
-- Assumes nothing.
use Prim.Native.Nat.{ℕ, ◌+◌, ◌-◌, ◌*◌, ◌/◌, ◌%◌, ◌^◌, ◌≤◌, ◌<◌}
use mathlib.Core.Bool.{Bool, true, false, not, ◌&&◌, ◌||◌}
use mathlib.Core.Path.{◌≡◌, refl, sym, ◌∙◌, ap}
use mathlib.Core.List.{List, ◌∷◌, ◌++◌, append_assoc}
use native.Mathlib.Omega.{arith}
use lib.Dec.{eqb, leb}
use lib.ListN.{length, get_or, take, drop, replicate, length-append, length-replicate, length-take, length-drop}
use lib.ListN.{get_or-replicate, get_or-append}
use lib.Seq.{take-append_seam, get_or-append-add, get_or-take, get_or-drop}
use borrow.Author.Tests.{leb-true, le-leb, eq-eqb, ne_eqb, eqb-true, not-true, not-false}
use Rattle.std.specs.Bool.{MatchBool}
use Rattle.std.specs.List.{AllWithin, HoldsAt}
use Rattle.bitset.specs.Sets.{any}
use Rattle.bitset.proofs.Tests.{and_out}
use Rattle.bitset.proofs.Below.{any_none, any_in, any_not}
use Rattle.streaming.specs.Streaming.{Rec}
use Rattle.endian.specs.Numbers.{bytes_of}
use Rattle.records.specs.Bytes.{held_from, held_count, decode, tidy, encode}

-- a test joined to those that passed
pub joined : (a b : Bool) → (not a && b) ≡ not (a || not b)
joined true b = refl
joined false true = refl
joined false false = refl

pub and_last : (a b c : Bool) → ((a && b) && c) ≡ (a && (b && (c && true)))
and_last false b c = refl
and_last true false c = refl
and_last true true true = refl
and_last true true false = refl

-- WRITTEN AND READ BACK

four : (x : ℕ) → x < 2 ^ 32
    → x % 256 + 256 * (x / 256 % 256 + 256 * (x / 256 / 256 % 256 + 256 * (x / 256 / 256 / 256 % 256 + 256 * 0))) ≡ x
four x h = omega arith

two : (x : ℕ) → x < 2 ^ 16 → x % 256 + 256 * (x / 256 % 256 + 256 * 0) ≡ x
two x h = omega arith

module _ (k : ℕ) (r : Rec) (rest : List ℕ) (few : length r.held < 2 ^ 16) where
  pub decode_encode : r.fed < 2 ^ 32 → decode (encode k r ++ rest) ≡ r
  decode_encode h = rw (
    four r.fed h,
    two (length r.held) few,
    append_assoc r.held
        (replicate (k - length r.held) 0) rest,
    take-append_seam,
  )

  -- past the held letters
  zero_at : (i : ℕ) → i < k - length r.held → get_or (encode k r ++ rest) (held_from + length r.held + i) 0 ≡ 0
  zero_at i g =
      let q : List ℕ = r.held ++ (replicate (k - length r.held) 0 ++ rest) in
      let e : held_from + length r.held + i ≡ held_from + (length r.held + i) = omega arith in
      rw (e, append_assoc r.held (replicate (k - length r.held) 0) rest)
      (get_or-append-add (bytes_of 4 r.fed ++ (r.last ∷ 0 ∷ bytes_of 2 (length r.held))) q (length r.held + i) 0
      ∙ get_or-append-add r.held (replicate (k - length r.held) 0 ++ rest) i 0
      ∙ get_or-append (replicate (k - length r.held) 0) rest 0 i (rw length-replicate g)
      ∙ get_or-replicate (k - length r.held) i 0 0 g)

  pub tidy_encode : length r.held ≤ k → tidy k (encode k r ++ rest) ≡ true
  unfolding tidy
  tidy_encode h =
      let none : any (k - length r.held) (λ i. not (eqb (get_or (encode k r ++ rest) (held_from + length r.held + i) 0) 0)) ≡ false =
      any_none (k - length r.held) _ (λ i g. ap (λ (x : ℕ). not (eqb x 0)) (zero_at i g)) in
      rw (two (length r.held) few, le-leb (length r.held) k h, none)

pub length_encode : (k : ℕ) (r : Rec) → length r.held ≤ k → length (encode k r) ≡ held_from + k
length_encode k r h = simp (length-append, length-replicate) (omega arith)

-- TIDY BYTES

pub record Tidy (k : ℕ) (bytes : List ℕ) : Type 0 where
  pub count : held_count bytes ≤ k
  pub zero : (i : ℕ) → i < k - held_count bytes → get_or bytes (held_from + held_count bytes + i) 0 ≡ 0

module _ (k : ℕ) (bytes : List ℕ) where
  pub tidy_out : tidy k bytes ≡ true → Tidy k bytes
  unfolding tidy
  tidy_out e =
      let (_, e) = and_out (eqb (get_or bytes 5 0) 0) _ e in
      let (a, e) = and_out (leb (held_count bytes) k) _ e in
      record { count = leb-true _ _ a; zero = λ i h. eqb-true _ _ (not-false _ (any_not _ _ (not-true _ e) i h)) }

  -- the byte after the last state is zero, and at most k letters are held: it is tidy where what is past these is zero
  pub tidy_is : get_or bytes 5 0 ≡ 0 → {held : ℕ} → held ≡ held_count bytes → held ≤ k → {z : Bool}
      → z ≡ not (any (k - held) (λ i. not (eqb (get_or bytes (held_from + held + i) 0) 0))) → z ≡ tidy k bytes
  unfolding tidy
  tidy_is zero {held} e h {z} d = d ∙ rw (zero, e, le-leb (held_count bytes) k (omega arith)) refl

-- what `all` tells of the zeros of a part of a list
pub zeros_told : (b : List ℕ) (from count w : ℕ) (r : Bool) → w ≡ count → from + count ≤ length b
    → (let part = take w (drop from b) in
    MatchBool r (AllWithin (λ x. x ≡ 0) part 0 (length part)) ((i : ℕ) × (i < length part) × HoldsAt (λ x. ¬ (x ≡ 0)) part i))
    → r ≡ not (any count (λ i. not (eqb (get_or b (from + i) 0) 0)))
zeros_told b from count w r e h = rw e (told r)
  where
    part : List ℕ
    part = take count (drop from b)

    long : length part ≡ count
    long = simp (length-take, length-drop) (omega arith)

    at : (i : ℕ) → i < count → get_or part i 0 ≡ get_or b (from + i) 0
    at i g = get_or-take count (drop from b) i 0 g ∙ get_or-drop from b i 0

    told : (r : Bool) → MatchBool r (AllWithin (λ x. x ≡ 0) part 0 (length part)) ((i : ℕ) × (i < length part) × HoldsAt (λ x. ¬ (x ≡ 0)) part i)
        → r ≡ not (any count (λ i. not (eqb (get_or b (from + i) 0) 0)))
    told true all = rw (any_none count (λ i. not (eqb (get_or b (from + i) 0) 0))
        (λ i g. ap not (eq-eqb _ 0 (sym (at i g) ∙ all i 0 (omega arith) (omega (arith, long))))))
    told false (i, g, ne) = rw (any_in count (λ i. not (eqb (get_or b (from + i) 0) 0)) i (omega (arith, long))
        (ap not (ne_eqb _ 0 (λ z. ne 0 (at i (omega (arith, long)) ∙ z)))))
