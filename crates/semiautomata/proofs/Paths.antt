-- Paths and the words they spell: joined, split, shortened, and carried into a larger semiautomaton; the states that they reach.
-- Assumes nothing.
use Prim.Native.Nat.{ℕ, zero, suc, ◌<◌}
use mathlib.Core.Bool.{true}
use mathlib.Core.Path.{◌≡◌, refl}
use mathlib.Core.List.{List, [], ◌∷◌, ◌++◌}
use native.Mathlib.Omega.{arith}
use lib.ListN.{length, get_or, take, drop, take-append-drop}
use Rattle.semiautomata.specs.Semiautomaton.{Semiautomaton, Within, Path, Spells, Accessible, Reached, Sub}

module _ (S : Semiautomaton) where
  pub path_join : (u v : List ℕ) (s t r : ℕ) → Path S s u t → Path S t v r → Path S s (u ++ v) r
  path_join [] v s t r p q = rw p q
  path_join (a ∷ u) v s t r (x, e, p) q = (x, e, path_join u v x t r p q)

  pub path_split : (u v : List ℕ) (s r : ℕ) → Path S s (u ++ v) r → (t : ℕ) × Path S s u t × Path S t v r
  path_split [] v s r p = (s, refl, p)
  path_split (a ∷ u) v s r (x, e, p) = let (t, p, q) = path_split u v x r p in (t, (x, e, p), q)

  pub path_lt : Within S → (w : List ℕ) (s t : ℕ) → s < S.n → Path S s w t → t < S.n
  path_lt W [] s t h p = rw p at h
  path_lt W (a ∷ w) s t h (x, e, p) = path_lt W w x t (W.to_lt s a x e) p

  -- what can be walked has letters below m only
  pub path_letters : Within S → (w : List ℕ) (s t : ℕ) → Path S s w t → (i : ℕ) → i < length w → get_or w i 0 < S.m
  path_letters W [] s t p i h = absurd (omega arith)
  path_letters W (a ∷ w) s t (r, e, p) zero h = W.letter_lt s a r e
  path_letters W (a ∷ w) s t (r, e, p) (suc i) h = path_letters W w r t p i (omega arith)

  pub spells_after : (u v : List ℕ) (s t : ℕ) → Path S s u t → Spells S t v → Spells S s (u ++ v)
  spells_after u v s t p (r, q) = (r, path_join u v s t r p q)

  pub spells_split : (u v : List ℕ) (s : ℕ) → Spells S s (u ++ v) → (t : ℕ) × Path S s u t × Spells S t v
  spells_split u v s (r, p) = let (t, p, q) = path_split u v s r p in (t, p, (r, q))

  -- R(s) is prefix-closed
  pub spells_prefix : (u v : List ℕ) (s : ℕ) → Spells S s (u ++ v) → Spells S s u
  spells_prefix u v s h = let (t, p, _) = spells_split u v s h in (t, p)

  pub spells_take : (j : ℕ) (w : List ℕ) (s : ℕ) → Spells S s w → Spells S s (take j w)
  spells_take j w s h = spells_prefix (take j w) (drop j w) s (rw take-append-drop h)

  pub spells_cons : (a : ℕ) (w : List ℕ) (s r : ℕ) → S.edge s a r ≡ true → Spells S r w → Spells S s (a ∷ w)
  spells_cons a w s r e (t, p) = (t, (r, e, p))

pub path_sub : (S L : Semiautomaton) → Sub S L → (w : List ℕ) (s t : ℕ) → Path S s w t → Path L s w t
path_sub S L i [] s t p = p
path_sub S L i (a ∷ w) s t (r, e, p) = (r, i.edge_in s a r e, path_sub S L i w r t p)

-- ACCESSIBLE STATES
module _ {S : Semiautomaton} where
  pub initial_accessible : Reached S S.initial
  initial_accessible s e = record { start = s; from_it = e; word = []; path = refl }

  -- what a word leads to from an accessible state is accessible
  pub accessible_after : {q t : ℕ} (w : List ℕ) → Accessible S q → Path S q w t → Accessible S t
  accessible_after {q} {t} w c p = record {
    start = c.start;
    from_it = c.from_it;
    word = c.word ++ w;
    path = path_join S c.word w c.start q t c.path p;
  }

  pub accessible_next : {q a t : ℕ} → Accessible S q → S.edge q a t ≡ true → Accessible S t
  accessible_next {q} {a} {t} c e = accessible_after (a ∷ []) c (t, e, refl)

pub accessible_sub : {S L : Semiautomaton} → Sub S L → {q : ℕ} → Accessible S q → Accessible L q
accessible_sub {S} {L} i {q} c = record {
  start = c.start;
  from_it = i.initial_in c.start c.from_it;
  word = c.word;
  path = path_sub S L i c.word c.start q c.path;
}
