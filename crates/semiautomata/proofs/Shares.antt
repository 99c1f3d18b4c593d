-- Shared words, and the laws of the look-ahead that need no search.
-- Assumes nothing.
use Prim.Native.Nat.{ℕ, zero, ◌+◌, ◌≤◌, ◌<◌}
use mathlib.Core.Bool.{Bool, true}
use mathlib.Core.Path.{◌≡◌, refl, sym}
use mathlib.Core.List.{List, [], ◌++◌}
use native.Mathlib.Omega.{arith}
use native.Mathlib.Decide.{dec_lt}
use lib.ListN.{length, take, length-append}
use lib.Seq.{length-take-le}
use Rattle.semiautomata.specs.Semiautomaton.{Semiautomaton, Within, Path, Sub}
use Rattle.semiautomata.specs.Predictability.{Critical, initial, fork, member, Counts, Share, Rivals, Clash, SetPredictable, Need}
use Rattle.semiautomata.specs.Predictability.{Predictable, Lookahead, Unpredictable}
use Rattle.semiautomata.proofs.Paths.{path_sub, accessible_sub, spells_after, spells_take}

pub rivals_swap : {X : ℕ → Bool} {s t : ℕ} → Rivals X s t → Rivals X t s
rivals_swap r = record { left = r.right; right = r.left; differ = λ e. r.differ (sym e) }

-- a clash with its states in order
pub record Ordered (S : Semiautomaton) (X : ℕ → Bool) (j : ℕ) : Type 0 where
  pub clash : Clash S X j
  pub order : clash.s < clash.t

module _ {S : Semiautomaton} where
  pub share_zero : {s t : ℕ} → Share S zero s t
  share_zero {s} {t} = record { word = []; long = refl; left = (s, refl); right = (t, refl) }

  pub share_swap : {j s t : ℕ} → Share S j s t → Share S j t s
  share_swap h = record { word = h.word; long = h.long; left = h.right; right = h.left }

  pub share_left : {j s t : ℕ} → Share S j s t → Share S j s s
  share_left h = record { word = h.word; long = h.long; left = h.left; right = h.left }

  pub share_shorter : {j k s t : ℕ} → j ≤ k → Share S k s t → Share S j s t
  share_shorter {j} {k} {s} {t} l h = record {
    word = take j h.word;
    long = length-take-le j h.word (omega arith);
    left = spells_take S j h.word s h.left;
    right = spells_take S j h.word t h.right;
  }

  pub share_after : {j s t x y : ℕ} (u : List ℕ) → Path S s u x → Path S t u y → Share S j x y → Share S (length u + j) s t
  share_after {j} {s} {t} {x} {y} u p q h = record {
    word = u ++ h.word;
    long = rw (length-append, h.long);
    left = spells_after S u h.word s x p h.left;
    right = spells_after S u h.word t y q h.right;
  }

  pub member_lt : Within S → (T : Critical) (s : ℕ) → member S T s ≡ true → s < S.n
  member_lt W initial s e = W.initial_lt s e
  member_lt W (fork q a) s e = W.to_lt q a s e

  pub rivals_lt : Within S → (T : Critical) {s t : ℕ} → Rivals (member S T) s t → (s < S.n) × (t < S.n)
  rivals_lt W T {s} {t} r = (member_lt W T s r.left, member_lt W T t r.right)

  -- CLASHES
  pub clash_shorter : {X : ℕ → Bool} {j k : ℕ} → j ≤ k → Clash S X k → Clash S X j
  clash_shorter l c = record { s = c.s; t = c.t; rivals = c.rivals; shared = share_shorter l c.shared }

  pub clash_ordered : {X : ℕ → Bool} {j : ℕ} → Clash S X j → Ordered S X j
  clash_ordered c = elim (dec_lt c.s c.t) [
    | yes l ↦ record { clash = c; order = l }
    | no l ↦ record {
      clash = record { s = c.t; t = c.s; rivals = rivals_swap c.rivals; shared = share_swap c.shared };
      order = omega (arith, c.rivals.differ);
    }
  ]

  -- PREDICTABILITY (003, Remark 1: what k letters decide, more letters decide)
  pub set_more : {X : ℕ → Bool} {j k : ℕ} → j ≤ k → SetPredictable S X j → SetPredictable S X k
  set_more l p c = p (clash_shorter l c)

  pub predictable_more : {j k : ℕ} → j ≤ k → Predictable S j → Predictable S k
  predictable_more l p T h = set_more l (p T h)

  pub need_unique : {X : ℕ → Bool} {j k : ℕ} → Need S X j → Need S X k → j ≡ k
  need_unique a b = omega (arith, below a b, below b a)
    where
      below : {X : ℕ → Bool} {j k : ℕ} → Need S X j → Need S X k → ¬ (j < k)
      below {j = j} a b h = a.enough (b.least j h)

  pub lookahead_unique : {j k : ℕ} → Lookahead S j → Lookahead S k → j ≡ k
  lookahead_unique a b = omega (arith, below a b, below b a)
    where
      below : {j k : ℕ} → Lookahead S j → Lookahead S k → ¬ (j < k)
      below {j} a b h = let (T, c, clash) = b.least j h in a.enough T c clash

  pub lookahead_predicts : {k : ℕ} → Lookahead S k → ¬ Unpredictable S
  lookahead_predicts {k} l u = u k l.enough

-- a smaller semiautomaton shares no more words
pub share_sub : {S L : Semiautomaton} → Sub S L → {j s t : ℕ} → Share S j s t → Share L j s t
share_sub {S} {L} i {j} {s} {t} h = record {
  word = h.word;
  long = h.long;
  left = (h.left.0, path_sub S L i h.word s h.left.0 h.left.1);
  right = (h.right.0, path_sub S L i h.word t h.right.0 h.right.1);
}

-- so what it is asked to look ahead is no more
pub predictable_sub : {S L : Semiautomaton} → Sub S L → {k : ℕ} → Predictable L k → Predictable S k
predictable_sub {S} {L} i p T c h = p T (counts_sub T c) (record {
  s = h.s;
  t = h.t;
  shared = share_sub i h.shared;
  rivals = record {
    left = member_sub T h.s h.rivals.left;
    right = member_sub T h.t h.rivals.right;
    differ =
        h.rivals.differ;
  };
})
  where
    member_sub : (T : Critical) (s : ℕ) → member S T s ≡ true → member L T s ≡ true
    member_sub initial s e = i.initial_in s e
    member_sub (fork q a) s e = i.edge_in q a s e

    counts_sub : (T : Critical) → Counts S T → Counts L T
    counts_sub initial c = tt
    counts_sub (fork q a) (c, (t, e)) = (accessible_sub i c, (t, i.edge_in q a t e))
