-- Letters fed one after the other: what is printed of the first of them, and what follows.
-- Assumes nothing.
use Prim.Native.Nat.{ℕ, ◌+◌, ◌*◌, ◌≤◌, ◌<◌}
use mathlib.Core.Bool.{Bool, true, false, cond}
use mathlib.Core.Path.{◌≡◌, refl, ◌∙◌}
use mathlib.Core.List.{List, [], ◌++◌, append_assoc}
use native.Mathlib.Numerals.{add-one}
use native.Mathlib.Omega.{arith}
use lib.ListN.{length, get_or, drop, length-append, drop_of_length-le}
use lib.Seq.{drop-cons}
use Rattle.streaming.specs.Calls.{Reply}
use Rattle.deciding.specs.Replies.{is_refusal}
use Rattle.predictor.specs.Calls.{fed_on}
use Rattle.slices.specs.declared.Filling.{Filling}
use Rattle.slices.specs.Filling.{Puts}
use Rattle.slices.proofs.Putting.{puts_none}
use Rattle.text.specs.Report.{reply_text, walk_text}
use Rattle.text.specs.Calls.{letter_width, open_on, walk_on, fed_upto, FedText}

-- the first i letters are fed, their lines are `text`, and the record is `left`
pub record Upto (table bytes letters : List ℕ) (i : ℕ) (left text : List ℕ) : Type 0 where
  pub long : length left ≡ length bytes
  pub few : length text ≤ letter_width * i
  pub fed : fed_upto table bytes letters ≡ fed_upto table left (drop i letters)
  pub follows : (rest : List ℕ) → walk_on table bytes (letters ++ rest) ≡ text ++ walk_on table left (drop i letters ++ rest)

pub upto_none : (table bytes letters : List ℕ) → Upto table bytes letters 0 bytes []
upto_none table bytes letters = record { long = refl; few = omega arith; fed = refl; follows = λ rest. refl }

module _ {table bytes letters : List ℕ} {i : ℕ} {left text : List ℕ} (u : Upto table bytes letters i left text) where
  -- one letter more: its reply, the text of that, and the record that is left
  module _ (h : i < length letters) {reply : Reply} {left' : List ℕ} (said : reply ≡ (fed_on table left (get_or letters i 0)).reply)
      (state : left' ≡ (fed_on table left (get_or letters i 0)).state) where
    more : {b : Bool} → is_refusal reply ≡ b → (rest : List ℕ) → walk_on table bytes (letters ++ rest)
        ≡ (text ++ reply_text reply) ++ cond b (open_on table left') (walk_on table left' (drop (i + 1) letters ++ rest))
    unfolding walk_text
    more e rest =
        u.follows rest
        ∙ rw (drop-cons letters i 0 h, walk_text, ← said, ← state, e, append_assoc, add-one)

    fed_more : {b : Bool} → is_refusal reply ≡ b
        → fed_upto table bytes letters ≡ cond b (record { refused = true; left = left' }) (fed_upto table left' (drop (i + 1) letters))
    fed_more e = u.fed ∙ rw (drop-cons letters i 0 h, ← said, ← state, e, add-one)

    pub upto_next : is_refusal reply ≡ false → length left' ≡ length left → length (reply_text reply) ≤ letter_width
        → Upto table bytes letters (i + 1) left' (text ++ reply_text reply)
    upto_next e l f =
        record { long = l ∙ u.long; few = rw length-append (omega (arith, u.few)); fed = fed_more e; follows = more e }

    pub upto_refused : is_refusal reply ≡ true
        → (fed_upto table bytes letters ≡ record { refused = true; left = left' })
        × ((rest : List ℕ) → FedText table bytes letters rest (text ++ (reply_text reply ++ open_on table left')))
    upto_refused e = (fed_more e, λ rest. rw (← append_assoc text (reply_text reply) (open_on table left')) (more e rest))

  pub upto_all : length letters ≤ i
      → (fed_upto table bytes letters ≡ record { refused = false; left = left })
      × ((rest : List ℕ) → FedText table bytes letters rest (text ++ walk_on table left rest))
  upto_all h = (
    u.fed ∙ rw (drop_of_length-le letters {i = i} h),
    λ rest. u.follows rest ∙ rw (drop_of_length-le letters {i = i} h),
  )

-- .. and these lines are put
pub record PutUpto (table bytes letters : List ℕ) (old : Filling) (i : ℕ) (left : List ℕ) (new : Filling) : Type 0 where
  pub text : List ℕ
  pub put : Puts old text new
  pub upto : Upto table bytes letters i left text

pub put_none : (table bytes letters : List ℕ) (old : Filling) → old.at ≤ length old.out.now → PutUpto table bytes letters old 0 bytes old
put_none table bytes letters old h = record { text = []; put = puts_none old h; upto = upto_none table bytes letters }
