-- Laws of little-endian numbers.
-- Assumes nothing.
use Prim.Native.Nat.{ℕ, zero, suc, ◌+◌, ◌-◌, ◌*◌, ◌/◌, ◌%◌, ◌^◌, ◌≤◌, ◌<◌}
use mathlib.Core.Path.{◌≡◌, refl, ◌∙◌, ap}
use mathlib.Core.List.{List, [], ◌∷◌, ◌++◌}
use native.Mathlib.Nat.{pow-succ'}
use native.Mathlib.Omega.{arith}
use lib.ListN.{length, get_or, take, drop, replicate, length-take, length-drop, get_or-append, get_or-replicate}
use lib.Seq.{get_or-take, get_or-drop, get_or-append-add}
use Rattle.endian.specs.Numbers.{number_at, bytes_of}

-- two halves are the whole
pub halves : (b : List ℕ) (at : ℕ) → number_at b at 2 + 65536 * number_at b (at + 2) 2 ≡ number_at b at 4
halves b at = let e : at + 2 ≡ at + 1 + 1 = omega arith in rw e (omega arith)

-- behind other bytes
number_behind : (x : ℕ) (b : List ℕ) (at c : ℕ) → number_at (x ∷ b) (suc at) c ≡ number_at b at c
number_behind x b at zero = refl
number_behind x b at (suc c) =
    let e : suc at + 1 ≡ suc (at + 1) = omega arith in
    ap (λ (y : ℕ). get_or b at 0 + 256 * y) (rw e (number_behind x b (at + 1) c))

-- what is written is read back
pub read_back : (c x : ℕ) (rest : List ℕ) → x < 256 ^ c → number_at (bytes_of c x ++ rest) 0 c ≡ x
read_back zero x rest h = omega arith
read_back (suc c) x rest h =
    let low : x / 256 < 256 ^ c = omega (arith, h) in
    rw (number_behind (x % 256) (bytes_of c (x / 256) ++ rest) 0 c, read_back c (x / 256) rest low) (omega arith)

-- a number of c bytes is below 256 ^ c
pub number_below : (b : List ℕ) (at c : ℕ) → ((i : ℕ) → get_or b i 0 < 256) → number_at b at c < 256 ^ c
number_below b at zero h = omega arith
number_below b at (suc c) h = rw (pow-succ' 256 c) (omega (arith, h at, number_below b (at + 1) c h))

-- zeros are the number 0
number_zero : (b : List ℕ) (at c : ℕ) → ((i : ℕ) → at ≤ i → i < at + c → get_or b i 0 ≡ 0) → number_at b at c ≡ 0
number_zero b at zero h = refl
number_zero b at (suc c) h = omega (arith, h at (omega arith) (omega arith), number_zero b (at + 1) c (λ i f g. h i (omega arith) (omega arith)))

-- bytes at another place, and then zeros, have the same number
number_moved : (b d : List ℕ) (at dt c e : ℕ) → ((i : ℕ) → i < c → get_or b (at + i) 0 ≡ get_or d (dt + i) 0)
    → ((i : ℕ) → at + c ≤ i → i < at + c + e → get_or b i 0 ≡ 0) → number_at b at (c + e) ≡ number_at d dt c
number_moved b d at dt zero e h z = let none : zero + e ≡ e = omega arith in rw none (number_zero b at e (λ i f g. z i (omega arith) (omega arith)))
number_moved b d at dt (suc c) e h z =
    let place : (x i : ℕ) → x + 1 + i ≡ x + (i + 1) = λ x i. omega arith in
    let front : (x : ℕ) → x + 0 ≡ x = λ x. omega arith in
    let first : get_or b at 0 ≡ get_or d dt 0 = rw (front at, front dt) at (h 0 (omega arith)) in
    let others = number_moved b d (at + 1) (dt + 1) c e (λ i g. rw (place at i, place dt i) (h (i + 1) (omega arith)))
    (λ i f g. z i (omega arith) (omega arith)) in
    let more : suc c + e ≡ suc (c + e) = omega arith in
    rw (more, first, others) refl

-- of eight zeros
zero_at : (w i : ℕ) → w + i < 8 → get_or {A = ℕ} (drop w (replicate 8 0)) i 0 ≡ 0
zero_at w i h = get_or-drop w (replicate {A = ℕ} 8 0) i 0 ∙ get_or-replicate 8 (w + i) 0 0 h

-- the first w of eight bytes, of which the others are 0
pub number_eight : (b : List ℕ) (at w : ℕ) {part : List ℕ} → w ≤ 8 → at + w ≤ length b → part ≡ take w (drop at b)
    → number_at (part ++ drop w (replicate 8 0)) 0 8 ≡ number_at b at w
number_eight b at w {part} h g e =
    let long : length part ≡ w = rw (e, length-take, length-drop) (omega arith) in
    let all : w + (8 - w) ≡ 8 = omega arith in
    rw all at (number_moved (part ++ drop w (replicate 8 0)) b 0 at w (8 - w)
    (λ i f. let place : 0 + i ≡ i = omega arith in
    rw place (get_or-append part _ 0 i (omega arith) ∙ rw e (get_or-take w (drop at b) i 0 f ∙ get_or-drop at b i 0)))
    (λ i f k. let place : length part + (i - w) ≡ i = omega arith in
    rw place at (get_or-append-add part (drop w (replicate 8 0)) (i - w) 0) ∙ zero_at w (i - w) (omega arith)))

-- the first w of the four bytes of a number
pub bytes_four : (w x : ℕ) → w ≤ 4 → take w (x % 256 ∷ x / 256 % 256 ∷ x / 65536 % 256 ∷ x / 16777216 % 256 ∷ []) ≡ bytes_of w x
bytes_four w x h = let third : x / 65536 ≡ x / 256 / 256 = omega arith in
    let fourth : x / 16777216 ≡ x / 256 / 256 / 256 = omega arith in
    rw (third, fourth) (first w h)
  where
    first : (w : ℕ) → w ≤ 4 → take w (bytes_of 4 x) ≡ bytes_of w x
    first zero h = refl
    first (suc zero) h = refl
    first (suc (suc zero)) h = refl
    first (suc (suc (suc zero))) h = refl
    first (suc (suc (suc (suc zero)))) h = refl
    first (suc (suc (suc (suc (suc w))))) h = absurd (omega arith)

pub bytes_length : (w x : ℕ) → length (bytes_of w x) ≡ w
bytes_length zero x = refl
bytes_length (suc w) x = rw (bytes_length w (x / 256)) refl
