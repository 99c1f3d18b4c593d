-- The sets that count and all sets: S asks for no more letters than 003's Definition 1 does, and for exactly as many as that does of S
-- without its unreachable states.
-- Assumes nothing.
use Prim.Native.Nat.{ℕ, ◌≤◌, ◌<◌}
use mathlib.Core.Bool.{true}
use mathlib.Core.Path.{◌≡◌}
use mathlib.Core.Logic.{◌↔◌}
use mathlib.Core.List.{List, [], ◌∷◌}
use native.Mathlib.Omega.{arith}
use Rattle.bitset.proofs.Tests.{and_in, and_out}
use Rattle.semiautomata.specs.Semiautomaton.{Semiautomaton, Within, Path, Accessible, Sub}
use Rattle.semiautomata.specs.Predictability.{Critical, initial, fork, member, Counts, Clash, SomeClash, Predictable, Lookahead}
use Rattle.semiautomata.specs.Predictability.{Unpredictable}
use Rattle.semiautomata.specs.Access.{accessible, trim}
use Rattle.semiautomata.specs.Wide.{PredictableWide, LookaheadWide, UnpredictableWide}
use Rattle.semiautomata.proofs.Paths.{initial_accessible, accessible_next, accessible_sub}
use Rattle.semiautomata.proofs.Shares.{share_sub}
use Rattle.semiautomata.proofs.Access.{accessible_in, accessible_out}
use Rattle.semiautomata.proofs.Decide.{least_such}

-- NEVER MORE

module _ (S : Semiautomaton) where
  pub never_more : (j k : ℕ) → Lookahead S j → LookaheadWide S k → j ≤ k
  never_more j k a b =
      let below : ¬ (k < j) = λ h. let (T, _, c) = a.least k h in b.enough T c in
      omega (arith, below)

  pub wide_missing : Unpredictable S → UnpredictableWide S
  wide_missing u k p = u k (λ T _. p T)

  -- WITHOUT UNREACHABLE STATES

  pub trim_sub : Sub (trim S) S
  trim_sub = record { initial_in = λ s e. e; edge_in = λ q a t e. (and_out (accessible S q) _ e).1 }

  pub trim_within : Within S → Within (trim S)
  trim_within W = record {
    initial_lt = W.initial_lt;
    from_lt = λ q a t e. W.from_lt q a t (trim_sub.edge_in q a t e);
    letter_lt = λ q a t e. W.letter_lt q a t (trim_sub.edge_in q a t e);
    to_lt = λ q a t e. W.to_lt q a t (trim_sub.edge_in q a t e);
  }

  -- the states of an edge that is left are accessible
  pub trim_edge_out : (q a t : ℕ) → (trim S).edge q a t ≡ true → Accessible S q × Accessible S t
  trim_edge_out q a t e =
      let (h, d) = and_out (accessible S q) _ e in
      let c = accessible_out S q h in
      (c, accessible_next {a = a} c d)

  -- so a critical set of which a state is left counts
  untrim : (T : Critical) (s : ℕ) → member (trim S) T s ≡ true → Counts S T × (member S T s ≡ true)
  untrim initial s e = (tt, e)
  untrim (fork q a) s e = let d = trim_sub.edge_in q a s e in (((trim_edge_out q a s e).0, (s, d)), d)

  untrim_clash : (j : ℕ) (T : Critical) → Clash (trim S) (member (trim S) T) j → SomeClash S j
  untrim_clash j T h =
      let (c, p) = untrim T h.s h.rivals.left in
      let (_, q) = untrim T h.t h.rivals.right in (
        T,
        c,
        record {
          s = h.s;
          t = h.t;
          rivals = record { left = p; right = q; differ = h.rivals.differ };
          shared = share_sub trim_sub h.shared;
        },
      )

  module _ (W : Within S) where
    pub trim_edge : (q a t : ℕ) → Accessible S q → S.edge q a t ≡ true → (trim S).edge q a t ≡ true
    trim_edge q a t c e = and_in _ _ (accessible_in S W q c) e

    trim_path : (w : List ℕ) (s t : ℕ) → Accessible S s → Path S s w t → Path (trim S) s w t
    trim_path [] s t c p = p
    trim_path (a ∷ w) s t c (r, e, p) = (r, trim_edge s a r c e, trim_path w r t (accessible_next {a = a} c e) p)

    pub trim_accessible : (q : ℕ) → Accessible S q ↔ Accessible (trim S) q
    trim_accessible q = (
      λ c. record {
        start = c.start;
        from_it = c.from_it;
        word = c.word;
        path = trim_path c.word c.start q (initial_accessible c.start c.from_it) c.path;
      },
      λ c. accessible_sub trim_sub c,
    )

    -- the states of a set that counts are there still, and are accessible
    trim_member : (T : Critical) → Counts S T → (s : ℕ) → member S T s ≡ true → (member (trim S) T s ≡ true) × Accessible S s
    trim_member initial c s e = (e, initial_accessible s e)
    trim_member (fork q a) (c, _) s e = (trim_edge q a s c e, accessible_next {a = a} c e)

    trim_clash : (j : ℕ) (T : Critical) → Counts S T → Clash S (member S T) j → Clash (trim S) (member (trim S) T) j
    trim_clash j T c h =
        let (p, x) = trim_member T c h.s h.rivals.left in
        let (q, y) = trim_member T c h.t h.rivals.right in
        let w = h.shared.word in
        let (r, l) = h.shared.left in
        let (u, k) = h.shared.right in
        record {
          s = h.s;
          t = h.t;
          rivals = record { left = p; right = q; differ = h.rivals.differ };
          shared =
              record { word = w; long = h.shared.long; left = (r, trim_path w h.s r x l); right = (u, trim_path w h.t u y k) };
        }

    trim_predictable : (k : ℕ) → Predictable S k ↔ PredictableWide (trim S) k
    trim_predictable k = (
      λ p T h. let (T, c, h) = untrim_clash k T h in p T c h,
      λ p T c h. p T (trim_clash k T c h),
    )

    pub trim_lookahead : (k : ℕ) → Lookahead S k ↔ LookaheadWide (trim S) k
    trim_lookahead = least_such S W (PredictableWide (trim S)) trim_predictable

    pub trim_unpredictable : Unpredictable S ↔ UnpredictableWide (trim S)
    trim_unpredictable = (λ u k p. u k ((trim_predictable k).1 p), λ u k p. u k ((trim_predictable k).0 p))
