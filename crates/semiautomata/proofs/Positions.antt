-- Possible states of a walk (Theorem 3): each position of a word that can be walked has one; later letters only strike some out; on a
-- k-predictable semiautomaton a position with k later letters has exactly one, and from there on the walk may be taken to begin in it.
-- Assumes nothing.
use Prim.Native.Nat.{ℕ, zero, suc, ◌+◌, ◌≤◌, ◌<◌}
use mathlib.Core.Bool.{Bool, true}
use mathlib.Core.Path.{◌≡◌, refl, sym, subst}
use mathlib.Core.List.{List, [], ◌∷◌, ◌++◌}
use native.Mathlib.Omega.{arith}
use native.Mathlib.Decide.{ℕ_discrete}
use lib.ListN.{length, take, drop, get_or, take-append-drop, length-drop}
use lib.Seq.{take-length, take-suc, drop-cons, take-append-le, drop-append-le, take-add, drop-drop, length-take-le}
use borrow.Author.Tests.{eqb-true, eq-eqb}
use Rattle.bitset.specs.Sets.{single}
use Rattle.semiautomata.specs.Semiautomaton.{Semiautomaton, Within, Path, Spells, Accessible, Reached}
use Rattle.semiautomata.specs.Predictability.{fork, Counts, SetPredictable, Predictable}
use Rattle.semiautomata.specs.Walks.{Walkable, OnPlan, Longest, Possible, PossibleAt, Only}
use Rattle.semiautomata.proofs.Paths.{path_join, path_split, path_lt, spells_after, spells_split, spells_prefix, spells_take}
use Rattle.semiautomata.proofs.Paths.{accessible_after}
use Rattle.semiautomata.proofs.Computed.{longest_unique}

pub single_is : (s t : ℕ) → single s t ≡ true → t ≡ s
single_is s t e = sym (eqb-true s t e)

pub single_in : (s : ℕ) → single s s ≡ true
single_in s = eq-eqb s s refl

module _ (S : Semiautomaton) (X : ℕ → Bool) where
  pub possible_lt : Within S → ((s : ℕ) → X s ≡ true → s < S.n) → {w : List ℕ} {i x : ℕ} → Possible S X w i x → x < S.n
  possible_lt W below {w} {i} {x} c = path_lt S W (take i w) c.start x (below c.start c.from_it) c.before

  pub some_possible : (w : List ℕ) (i : ℕ) → Walkable S X w → (x : ℕ) × Possible S X w i x
  some_possible w i o =
      let (x, p, q) = spells_split S (take i w) (drop i w) o.start (rw take-append-drop o.spells) in
      (x, record { start = o.start; from_it = o.from_it; before = p; after = q })

  pub possible_walkable : (w : List ℕ) (i x : ℕ) → Possible S X w i x → Walkable S X w
  possible_walkable w i x c = record {
    start = c.start;
    from_it = c.from_it;
    spells = rw take-append-drop at (spells_after S (take i w) (drop i w) c.start x c.before c.after);
  }

  -- later letters only strike possible states out
  pub possible_earlier : (w v : List ℕ) (i x : ℕ) → i ≤ length w → Possible S X (w ++ v) i x → Possible S X w i x
  possible_earlier w v i x h c = record {
    start = c.start;
    from_it = c.from_it;
    before = rw take-append-le at c.before;
    after = spells_prefix S (drop i w) v x (rw drop-append-le at c.after);
  }

  -- a possible state behind a letter has a possible state before it
  possible_before : (w : List ℕ) (i x : ℕ) → i < length w → Possible S X w (suc i) x
      → (r : ℕ) × Possible S X w i r × (S.edge r (get_or w i 0) x ≡ true)
  possible_before w i x h c =
      let (r, p, (y, e, q)) = path_split S (take i w) (get_or w i 0 ∷ []) c.start x (rw (take-suc w i 0 h) at c.before) in
      let (t, after) = c.after in
      let e : S.edge r (get_or w i 0) x ≡ true = rw q at e in
      (r, record { start = c.start; from_it = c.from_it; before = p; after = rw (drop-cons w i 0 h) (t, (x, e, after)) }, e)

  -- a fork that a walk from accessible states comes through counts
  pub fork_counts : Reached S X → {w : List ℕ} {i r a t : ℕ} → Possible S X w i r → S.edge r a t ≡ true → Counts S (fork r a)
  fork_counts access {w} {i} {t = t} c e = (accessible_after (take i w) (access c.start c.from_it) c.before, (t, e))

  -- of two different possible states that k letters follow, two rivals would share a word of k letters
  parted : (k : ℕ) (Y : ℕ → Bool) → SetPredictable S Y k → (v : List ℕ) → k ≤ length v → (x y : ℕ) → Y x ≡ true → Y y ≡ true → Spells S x v
      → Spells S y v → x ≡ y
  parted k Y p v h x y a b c d = elim (ℕ_discrete x y) [
    | yes e ↦ e
    | no ne ↦ absurd (p (record {
      s = x;
      t = y;
      rivals = record { left = a; right = b; differ = ne };
      shared = record { word = take k v; long = length-take-le k v h; left = spells_take S k v x c; right = spells_take S k v y d };
    }))
  ]

  -- with k later letters two possible states are the same
  pub possible_unique : Reached S X → (k : ℕ) → SetPredictable S X k → Predictable S k
      → (w : List ℕ) (i x y : ℕ) → i + k ≤ length w → Possible S X w i x → Possible S X w i y → x ≡ y
  possible_unique access k q P w zero x y h c d =
      parted k X q w (omega arith) x y (rw c.before at c.from_it) (rw d.before at d.from_it) c.after d.after
  possible_unique access k q P w (suc i) x y h c d =
      let (r, c', e) = possible_before w i x (omega arith) c in
      let (u, d', f) = possible_before w i y (omega arith) d in
      let same : u ≡ r = possible_unique access k q P w i u r (omega arith) d' c' in
      let enough = P (fork r (get_or w i 0)) (fork_counts access c' e) in
      parted k (S.edge r (get_or w i 0)) enough (drop (suc i) w) (rw length-drop (omega arith)) x y e (rw same at f) c.after d.after

  -- where b is the only possible state at position j of w, a longer walk may be taken to begin there, in b
  module _ (w v : List ℕ) (j b : ℕ) (h : j ≤ length w) (is : Possible S X w j b) (only : (x : ℕ) → Possible S X w j x → x ≡ b) where
    pub restart_walkable : Walkable S X (w ++ v) → Walkable S (single b) (drop j w ++ v)
    restart_walkable o =
        let (x, c) = some_possible (w ++ v) j o in
        let e : x ≡ b = only x (possible_earlier w v j x h c) in
        record {
          start = b;
          from_it = single_in b;
          spells =
              subst (λ (x : ℕ). Spells S x (drop j w ++ v)) e (rw drop-append-le at c.after);
        }

    pub resume_walkable : Walkable S (single b) (drop j w ++ v) → Walkable S X (w ++ v)
    resume_walkable c = possible_walkable (w ++ v) j b (record {
      start = is.start;
      from_it = is.from_it;
      before = rw take-append-le is.before;
      after = rw drop-append-le (subst (λ (x : ℕ). Spells S x (drop j w ++ v)) (single_is b c.start c.from_it) c.spells);
    })

    pub restart_possible : (i y : ℕ) → Possible S X (w ++ v) (j + i) y → Possible S (single b) (drop j w ++ v) i y
    restart_possible i y c =
        let (x, p, q) = path_split S (take j (w ++ v)) (take i (drop j (w ++ v))) c.start y (rw take-add at c.before) in
        let after : Spells S y (drop i (drop j (w ++ v))) = rw drop-drop c.after in
        let at_j : Possible S X (w ++ v) j x = record {
          start = c.start;
          from_it = c.from_it;
          before = p;
          after = rw take-append-drop at (spells_after S (take i (drop j (w ++ v))) (drop i (drop j (w ++ v))) x y q after);
        } in
        let same : x ≡ b = only x (possible_earlier w v j x h at_j) in
        rw (← drop-append-le j w v h) (record {
          start = b;
          from_it = single_in b;
          before = subst (λ (x : ℕ). Path S x (take i (drop j (w ++ v))) y) same q;
          after = after;
        })

    pub resume_possible : (i y : ℕ) → Possible S (single b) (drop j w ++ v) i y → Possible S X (w ++ v) (j + i) y
    resume_possible i y c₀ =
        let c : Possible S (single b) (drop j (w ++ v)) i y = rw drop-append-le c₀ in
        let p : Path S b (take i (drop j (w ++ v))) y =
        subst (λ (x : ℕ). Path S x (take i (drop j (w ++ v))) y) (single_is b c.start c.from_it) c.before in
        record {
          start = is.start;
          from_it = is.from_it;
          before = rw take-add (path_join S (take j (w ++ v)) (take i (drop j (w ++ v))) is.start b y
              (rw take-append-le is.before) p);
          after = rw drop-drop at c.after;
        }

-- WHOLE WALKS: of a walk that is on the plan, the longest beginning on the plan is the walk itself
module _ (S : Semiautomaton) (w : List ℕ) (o : OnPlan S w) where
  pub on_plan_longest : Longest S w (length w)
  on_plan_longest = record { fits = omega arith; walked = rw (take-length w) o; most = λ h l _. l }

  pub whole_in : (i x : ℕ) → i ≤ length w → Possible S S.initial w i x → PossibleAt S w i x
  whole_in i x h c = record { g = length w; longest = on_plan_longest; fits = h; is = rw (take-length w) c }

  pub whole_out : (i x : ℕ) → PossibleAt S w i x → Possible S S.initial w i x
  whole_out i x c = rw (longest_unique S w c.g (length w) c.longest on_plan_longest, take-length w) at c.is

-- the one possible state of the longest beginning on the plan is that of the walk
pub only_longest : (S : Semiautomaton) (w : List ℕ) (g : ℕ) → Longest S w g → (i x : ℕ) → i ≤ g → Only S (take g w) i x → Only S w i x
only_longest S w g l i x h one =
    let o = l.walked in
    record {
      is = record { g = g; longest = l; fits = h; is = whole_out S (take g w) o i x one.is };
      only = λ y c.
          let d : Possible S S.initial (take g w) i y = rw (longest_unique S w c.g g c.longest l) at c.is in
          one.only y (whole_in S (take g w) o i y (rw (length-take-le g w l.fits) h) d);
    }

-- a possible state of a walk is accessible
pub possible_accessible : (S : Semiautomaton) (w : List ℕ) (i x : ℕ) → Possible S S.initial w i x → Accessible S x
possible_accessible S w i x c = record { start = c.start; from_it = c.from_it; word = take i w; path = c.before }
