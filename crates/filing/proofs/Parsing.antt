-- A plan that is written without gaps is read back: its numbers, its starts and its lines.
-- Assumes nothing.
use Prim.Native.Nat.{ℕ, zero, suc, ◌+◌, ◌*◌, ◌<◌}
use mathlib.Core.Bool.{Bool, true, false, cond}
use mathlib.Core.Path.{◌≡◌, refl, ◌∙◌, ap}
use mathlib.Core.List.{List, [], ◌∷◌, ◌++◌}
use native.Mathlib.Omega.{arith}
use lib.ListN.{length, get_or, length-append, get_or-append}
use lib.Seq.{get_or-append-add}
use Rattle.endian.specs.Numbers.{number_at, bytes_of}
use Rattle.endian.proofs.Numbers.{read_back}
use Rattle.plan.specs.declared.Header.{Header}
use Rattle.plan.specs.declared.Line.{Line}
use Rattle.plan.specs.Plan.{Plan, line, has_parties}
use Rattle.plan.specs.Bytes.{header_of, line_width, line_at, parsed}
use Rattle.plan.specs.Written.{Listed, joined, header_bytes, plan_bytes}
use Rattle.plan.proofs.Widths.{width_cases}
use Rattle.filing.specs.Theorems.{header_in_order}
use Rattle.filing.specs.inner.Steps.{bytes_of_line}
use Rattle.filing.proofs.Listing.{All, all_none, all_more}
use Rattle.filing.proofs.Parties.{PartyFits}

-- behind other bytes
behind : (xs ys : List ℕ) (i j : ℕ) → j ≡ length xs + i → get_or (xs ++ ys) j 0 ≡ get_or ys i 0
behind xs ys i j e = rw e (get_or-append-add xs ys i 0)

-- LINES ONE AFTER THE OTHER, with parties or without

-- so many bytes has a line
abbrev width : Bool → ℕ
width partied = cond partied 4 3

abbrev at : Bool → List ℕ → ℕ → Line
at partied xs i = line (get_or xs i 0) (get_or xs (i + 1) 0) (get_or xs (i + 2) 0) (cond partied (get_or xs (i + 3) 0) 0)

at_behind : (partied : Bool) (xs ys : List ℕ) (i j : ℕ) → j ≡ length xs + i → at partied (xs ++ ys) j ≡ at partied ys i
at_behind partied xs ys i j e = λ k. record {
  from = behind xs ys i j e k;
  letter = behind xs ys (i + 1) (j + 1) (omega arith) k;
  to = behind xs ys (i + 2) (j + 2) (omega arith) k;
  party = cond partied (behind xs ys (i + 3) (j + 3) (omega arith) k) 0;
}

joined_length : (partied : Bool) (ls : List Line) → length (joined (bytes_of_line partied) ls) ≡ width partied * length ls
joined_length true [] = refl
joined_length false [] = refl
joined_length true (l ∷ ls) = omega (arith, joined_length true ls)
joined_length false (l ∷ ls) = omega (arith, joined_length false ls)

first_line : (partied : Bool) (l : Line) (ys : List ℕ) → PartyFits partied l → at partied (bytes_of_line partied l ++ ys) 0 ≡ l
first_line true l ys h = refl
first_line false l ys h = let e : 0 ≡ l.party = omega arith in
    λ k. record { from = l.from; letter = l.letter; to = l.to; party = e k }

next_line : (partied : Bool) (l : Line) (i : ℕ) → width partied * suc i ≡ length (bytes_of_line partied l) + width partied * i
next_line true l i = omega arith
next_line false l i = omega arith

start_line : (partied : Bool) → width partied * 0 ≡ 0
start_line true = refl
start_line false = refl

joined_line : (partied : Bool) {ls : List Line} → All (PartyFits partied) ls → (i : ℕ) (d : Line) → i < length ls
    → at partied (joined (bytes_of_line partied) ls) (width partied * i) ≡ get_or ls i d
joined_line partied all_none i d h = absurd (omega arith)
joined_line partied (all_more q a) zero d h = rw (start_line partied) (first_line partied _ _ q)
joined_line partied (all_more {x = l} {l = ls} q a) (suc i) d h =
    at_behind partied (bytes_of_line partied l) (joined (bytes_of_line partied) ls) (width partied * i) _ (next_line partied l i)
    ∙ joined_line partied a i d (omega arith)

-- the header of what is listed
abbrev pub header_listed : Listed → Header
header_listed L = header_in_order L.edition (record { n = L.n; m = L.m; p = length L.starts; e = length L.lines })

-- a plan has the starts and lines that are listed
pub record Lists (L : Listed) (P : Plan) : Type 0 where
  pub p_is : P.p ≡ length L.starts
  pub e_is : P.e ≡ length L.lines
  pub start_is : (i : ℕ) → i < length L.starts → P.start i ≡ get_or L.starts i 0
  pub line_is : (i : ℕ) → i < length L.lines → P.line i ≡ get_or L.lines i (line 0 0 0 0)

module _ (L : Listed) where
  abbrev front : List ℕ
  front = header_bytes L.edition L.n L.m (length L.starts) (length L.lines)

  abbrev partied : Bool
  partied = has_parties L.edition

  abbrev lines : List ℕ
  lines = joined (bytes_of_line partied) L.lines

  pub listed_header : L.edition < 65536 → L.n < 65536 → L.m < 65536 → (header_listed L).total < 65536
      → header_of (plan_bytes L) ≡ header_listed L
  listed_header edition n m total =
      let p = length L.starts in
      let e = length L.lines in
      let two : (x : ℕ) → x < 65536 → number_at (bytes_of 2 x) 0 2 ≡ x = λ x h. read_back 2 x [] h in
      let few : e < 65536 =
      width_cases L.edition (λ w. 16 + p + w * e < 65536 → e < 65536) (λ h. omega arith) (λ h. omega arith) total in
      λ i. record {
        edition = two L.edition edition i;
        n = two L.n n i;
        m = two L.m m i;
        p = two p (omega arith) i;
        e = two e (omega arith) i;
        starts = 16;
        lines = two (16 + p) (omega arith) i;
        total = two (16 + p + line_width L.edition * e) total i;
      }

  pub listed_length : length (plan_bytes L) ≡ (header_listed L).total
  listed_length = rw length-append (omega (arith, joined_length partied L.lines))

  listed_start : (i : ℕ) → i < length L.starts → get_or (plan_bytes L) (16 + i) 0 ≡ get_or L.starts i 0
  listed_start i h = behind front (L.starts ++ lines) i (16 + i) refl ∙ get_or-append L.starts lines 0 i h

  listed_line : All (PartyFits partied) L.lines → (i : ℕ) (d : Line) → i < length L.lines
      → at partied (plan_bytes L) (16 + length L.starts + width partied * i) ≡ get_or L.lines i d
  listed_line fit i d h =
      let place = length L.starts + width partied * i in
      at_behind partied front (L.starts ++ lines) place (16 + length L.starts + width partied * i) (omega arith)
      ∙ at_behind partied L.starts lines (width partied * i) place refl
      ∙ joined_line partied fit i d h

  pub listed_parsed : All (PartyFits partied) L.lines → header_of (plan_bytes L) ≡ header_listed L → Lists L (parsed (plan_bytes L))
  listed_parsed fit is = record {
    p_is = ap (λ (h : Header). h.p) is;
    e_is = ap (λ (h : Header). h.e) is;
    start_is = listed_start;
    line_is = λ i h.
        ap (λ (g : Header). line_at g.edition (plan_bytes L) (g.lines + line_width g.edition * i)) is
        ∙ listed_line fit i (line 0 0 0 0) h;
  }
