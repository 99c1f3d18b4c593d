-- The held letters once one more is taken, in their part of a record and in the record.
-- Assumes nothing.
use Prim.Native.Nat.{ℕ, zero, suc, ◌+◌, ◌-◌, ◌≤◌, ◌<◌, min}
use mathlib.Core.Path.{◌≡◌, refl, sym, ◌∙◌, ap}
use mathlib.Core.List.{List, [], ◌∷◌, ◌++◌, append_assoc}
use native.Mathlib.Nat.{not-suc-le-zero}
use native.Mathlib.Omega.{arith}
use lib.ListN.{length, take, drop, get_or, set, replicate, length-drop}
use lib.Seq.{drop-cons, set_at, set_split, get_or-drop, length-take-le, append_snoc, drop-drop, drop_at}
use Rattle.std.specs.List.{copy_within}
use Rattle.streaming.specs.Streaming.{latest}
use Rattle.streaming.proofs.Streaming.{length_snoc}
use Rattle.endian.specs.Numbers.{bytes_of}
use Rattle.records.specs.Bytes.{held_from, held_count, decode, encode}
use Rattle.records.specs.Taking.{pushed, taken_into, started_into}
use Rattle.records.proofs.Bytes.{Tidy}

-- MOVING UP: k letters, of which the first goes and each other stands one place further forward

set_moved : (i x v : ℕ) (bs : List ℕ) → i ≤ length bs → set (take i bs ++ drop i (x ∷ bs)) i v ≡ take i bs ++ (v ∷ drop i bs)
set_moved i x v bs h = rw (drop-cons (x ∷ bs) i 0 (omega arith))
    (set_at (take i bs) (get_or (x ∷ bs) i 0) (drop i bs) v i (length-take-le i bs h))

pub pushed_full : (k : ℕ) (b : List ℕ) (a : ℕ) → 1 ≤ k → k ≤ length b → set (copy_within b 1 k 0) (k - 1) a ≡ pushed k k b a
unfolding pushed
pushed_full zero b a l h = absurd (not-suc-le-zero l)
pushed_full (suc k) [] a l h = absurd (not-suc-le-zero h)
pushed_full (suc k) (x ∷ bs) a l h =
    let p : suc k - 1 ≡ k = omega arith in
    let q : suc (suc k) - suc k ≡ 1 = omega arith in
    let r : suc (suc k) - 1 ≡ suc k = omega arith in
    let z : 0 + k ≡ k = omega arith in
    rw (p, q, r, z) (set_moved k x a bs (omega arith) ∙ sym (append_snoc (take k bs) a (drop k bs)))

-- a place is free: the letter goes there
pub pushed_free : (k h : ℕ) (b : List ℕ) (a : ℕ) → h < k → k ≤ length b → set b h a ≡ pushed k h b a
unfolding pushed
pushed_free k h b a l f =
    let d : suc h - k ≡ 0 = omega arith in
    let e : suc h - 0 ≡ suc h = omega arith in
    rw (d, e) (set_split b h a (omega arith) ∙ sym (append_snoc (take h b) a (drop (suc h) b)))

-- none is ever held
pub pushed_none : (k h : ℕ) (b : List ℕ) (a : ℕ) → k ≡ 0 → h ≤ k → b ≡ pushed k h b a
unfolding pushed
pushed_none k h b a z l = let y : h ≡ 0 = omega arith in rw (z, y)

-- IN THE RECORD

zero_run : (c : ℕ) (b : List ℕ) → c ≤ length b → ((i : ℕ) → i < c → get_or b i 0 ≡ 0) → b ≡ replicate c 0 ++ drop c b
zero_run zero b h z = refl
zero_run (suc c) [] h z = absurd (not-suc-le-zero h)
zero_run (suc c) (x ∷ b) h z = rw (← zero_run c b (omega arith) (λ i g. z (suc i) (omega arith)), z 0 (omega arith))

-- behind h held letters there are zeros up to k: so from any l on
zeros_from : (k h l : ℕ) (b : List ℕ) → h ≤ l → l ≤ k → k ≤ length b → ((i : ℕ) → i < k - h → get_or b (h + i) 0 ≡ 0)
    → drop l b ≡ replicate (k - l) 0 ++ drop k b
zeros_from k h l b p q f z =
    let e : l + (k - l) ≡ k = omega arith in
    rw (← ap (λ (j : ℕ). drop j b) e, ← drop-drop (k - l) l b)
    (zero_run (k - l) (drop l b) (rw length-drop (omega arith))
    (λ i g. get_or-drop l b i 0 ∙ (let d : l + i ≡ h + (l - h + i) = omega arith in rw d (z (l - h + i) (omega arith)))))

-- the part from byte 8 on is as a record of the letters then held has it
pushed_encode : (k h fed last a : ℕ) (b rest : List ℕ) → h ≤ k → k ≤ length b → ((i : ℕ) → i < k - h → get_or b (h + i) 0 ≡ 0)
    → drop k b ≡ rest
    → bytes_of 4 fed ++ (last ∷ 0 ∷ bytes_of 2 (min (h + 1) k) ++ pushed k h b a)
    ≡ encode k (record { fed = fed; last = last; held = latest k (take h b ++ (a ∷ [])) }) ++ rest
unfolding pushed
pushed_encode k h fed last a b rest p f z r =
    let s : length (take h b ++ (a ∷ [])) ≡ suc h = length_snoc (take h b) a ∙ ap suc (length-take-le h b (omega arith)) in
    let l : length (drop (suc h - k) (take h b ++ (a ∷ []))) ≡ suc h - (suc h - k) = rw (length-drop, s) in
    let m : min (h + 1) k ≡ suc h - (suc h - k) = omega arith in
    let t : drop (suc h - (suc h - k)) b ≡ replicate (k - (suc h - (suc h - k))) 0 ++ drop k b =
    zeros_from k h (suc h - (suc h - k)) b (omega arith) (omega arith) f z in
    rw (s, l, m, t, r, append_assoc (drop (suc h - k) (take h b ++ (a ∷ []))) (replicate (k - (suc h - (suc h - k))) 0) rest)

-- the letter pushed and then the numbers written; `from` is 8, held open so that nothing computes
kept_encode : (from k h fed last a : ℕ) (b r₁ r₂ : List ℕ) → h ≤ k → from + k ≤ length b
    → ((i : ℕ) → i < k - h → get_or b (from + h + i) 0 ≡ 0) → r₁ ≡ take from b ++ pushed k h (drop from b) a
    → r₂ ≡ bytes_of 4 fed ++ (last ∷ 0 ∷ bytes_of 2 (min (h + 1) k) ++ drop from r₁)
    → r₂ ≡ encode k (record { fed = fed; last = last; held = latest k (take h (drop from b) ++ (a ∷ [])) }) ++ drop (from + k) b
kept_encode from k h fed last a b r₁ r₂ p f z q₁ q₂ =
    let tail : drop from r₁ ≡ pushed k h (drop from b) a =
    rw q₁ (drop_at (take from b) (pushed k h (drop from b) a) from (length-take-le from b (omega arith))) in
    q₂ ∙ rw tail (pushed_encode k h fed last a (drop from b) (drop (from + k) b) p (rw length-drop (omega arith))
    (λ i g. get_or-drop from b (h + i) 0 ∙ (let d : from + (h + i) ≡ from + h + i = omega arith in rw d (z i g))) (drop-drop k from b))

module _ (k : ℕ) (b : List ℕ) (room : held_from + k ≤ length b) (t : Tidy k b) where
  pub taken_bytes : (h fed last a count : ℕ) (r₁ r₂ : List ℕ) → h ≡ held_count b → fed ≡ suc (decode b).fed → count ≡ min (h + 1) k
      → r₁ ≡ take held_from b ++ pushed k h (drop held_from b) a → r₂ ≡ bytes_of 4 fed ++ (last ∷ 0 ∷ bytes_of 2 count ++ drop held_from r₁)
      → r₂ ≡ taken_into k b a last
  unfolding taken_into
  taken_bytes h fed last a count r₁ r₂ eh ef ec q₁ q₂ =
      kept_encode held_from k (held_count b) (suc (decode b).fed) last a b r₁ r₂ t.count room t.zero (rw eh at q₁)
      (rw (ef, ec, eh) at q₂)

-- BEGUN: zeros in the part from byte 8 on and then the numbers written
begun_encode : (from k last : ℕ) (b r₁ r₂ : List ℕ) → from + k ≤ length b → r₁ ≡ take from b ++ (replicate k 0 ++ drop k (drop from b))
    → r₂ ≡ bytes_of 4 0 ++ (last ∷ 0 ∷ bytes_of 2 0 ++ drop from r₁)
    → r₂ ≡ encode k (record { fed = 0; last = last; held = [] }) ++ drop (from + k) b
begun_encode from k last b r₁ r₂ f q₁ q₂ =
    let tail : drop from r₁ ≡ replicate k 0 ++ drop k (drop from b) =
    rw q₁ (drop_at (take from b) (replicate k 0 ++ drop k (drop from b)) from (length-take-le from b (omega arith))) in
    let all : k - 0 ≡ k = omega arith in
    q₂ ∙ rw (tail, drop-drop k from b, all)

pub begun_bytes : (k last : ℕ) (b r₁ r₂ : List ℕ) → held_from + k ≤ length b
    → r₁ ≡ take held_from b ++ (replicate k 0 ++ drop k (drop held_from b))
    → r₂ ≡ bytes_of 4 0 ++ (last ∷ 0 ∷ bytes_of 2 0 ++ drop held_from r₁) → r₂ ≡ started_into k b last
unfolding started_into
begun_bytes = begun_encode held_from
