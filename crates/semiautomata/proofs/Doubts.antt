-- A clash makes a walk with a position in doubt: one word leads to all states of a set that counts, and two rivals share how it goes on.
-- Assumes nothing.
use Prim.Native.Nat.{ℕ, ◌+◌}
use mathlib.Core.Bool.{true}
use mathlib.Core.Path.{◌≡◌, refl, sym}
use mathlib.Core.List.{List, [], ◌∷◌, ◌++◌}
use native.Mathlib.Omega.{arith}
use lib.ListN.{length, length-append}
use lib.Seq.{take-append_seam, drop-append_seam}
use Rattle.semiautomata.specs.Semiautomaton.{Semiautomaton, Path, Spells}
use Rattle.semiautomata.specs.Predictability.{Critical, initial, fork, member, Counts, Clash}
use Rattle.semiautomata.specs.Walks.{Possible}
use Rattle.semiautomata.specs.Waiting.{InDoubt}
use Rattle.semiautomata.proofs.Paths.{path_join}
use Rattle.semiautomata.proofs.Positions.{possible_walkable, whole_in}

module _ (S : Semiautomaton) where
  -- one word leads from initial states to all states of a set that counts
  abbrev pub way : (T : Critical) → Counts S T → List ℕ
  way initial c = []
  way (fork q a) (c, _) = c.word ++ (a ∷ [])

  way_leads : (T : Critical) (c : Counts S T) (x : ℕ) → member S T x ≡ true → (s : ℕ) × (S.initial s ≡ true) × Path S s (way T c) x
  way_leads initial c x e = (x, e, refl)
  way_leads (fork q a) (c, _) x e = (c.start, c.from_it, path_join S c.word (a ∷ []) c.start q x c.path (x, e, refl))

  -- a state that u leads to and that can walk v is possible between them
  possible_between : (u v : List ℕ) (x : ℕ) → (s : ℕ) × (S.initial s ≡ true) × Path S s u x → Spells S x v
      → Possible S S.initial (u ++ v) (length u) x
  possible_between u v x (s, e, p) q = record { start = s; from_it = e; before = rw take-append_seam p; after = rw drop-append_seam q }

  -- the word that leads to a clash and goes on by what two rivals share
  pub clash_walk : (j : ℕ) (T : Critical) (c : Counts S T) → Clash S (member S T) j
      → (d : InDoubt S j) × (length d.word ≡ length (way T c) + j)
  clash_walk j T c h =
      let u = way T c in
      let v = h.shared.word in
      let p = possible_between u v h.s (way_leads T c h.s h.rivals.left) h.shared.left in
      let q = possible_between u v h.t (way_leads T c h.t h.rivals.right) h.shared.right in
      let o = possible_walkable S S.initial (u ++ v) (length u) h.s p in
      let long : length (u ++ v) ≡ length u + j = rw (length-append, h.shared.long) in (
        record {
          word = u ++ v;
          position = length u;
          later = sym long;
          on_plan = o;
          two = record {
            x = h.s;
            y = h.t;
            differ = h.rivals.differ;
            one = whole_in S (u ++ v) o (length u) h.s (omega arith) p;
            other = whole_in S (u ++ v) o (length u) h.t (omega arith) q;
          };
        },
        long,
      )
