-- Two states that share a word of n × n letters share words of every length: on the way they come to some pair a second time.
-- Assumes nothing.
use Prim.Native.Nat.{ℕ, zero, suc, ◌+◌, ◌-◌, ◌*◌, ◌≤◌, ◌<◌}
use mathlib.Core.Bool.{true}
use mathlib.Core.Path.{◌≡◌, sym, subst}
use mathlib.Core.List.{List}
use native.Mathlib.Omega.{arith}
use lib.ListN.{length, get_or}
use Rattle.semiautomata.specs.Semiautomaton.{Semiautomaton, Within, Path}
use Rattle.semiautomata.specs.Predictability.{Share, Lasso}
use Rattle.semiautomata.specs.Levels.{live}
use Rattle.semiautomata.proofs.Shares.{share_zero, share_shorter, share_after}
use Rattle.semiautomata.proofs.Pairs.{repeats, ordered, ordered_lt, ordered_inj}
use Rattle.semiautomata.proofs.Runs.{spell, length_spell, Run, trace, trace_run, run_path, run_lt}
use Rattle.semiautomata.proofs.Levels.{live_in, live_out}

-- a stem and a cycle for both of s and t
pub record Twin (S : Semiautomaton) (s t : ℕ) : Type 0 where
  pub stem : List ℕ
  pub cycle : List ℕ
  pub turns : 0 < length cycle
  pub short : length stem + length cycle ≤ S.n * S.n
  pub left : Lasso S s stem cycle
  pub right : Lasso S t stem cycle

module _ (S : Semiautomaton) where
  cycle_share : (v : List ℕ) (x y : ℕ) → 0 < length v → Path S x v x → Path S y v y → (j : ℕ) → Share S j x y
  cycle_share v x y h p q zero = share_zero
  cycle_share v x y h p q (suc j) = share_shorter (omega arith) (share_after v p q (cycle_share v x y h p q j))

  pub lasso_share : (s t : ℕ) (u v : List ℕ) → 0 < length v → Lasso S s u v → Lasso S t u v → (j : ℕ) → Share S j s t
  lasso_share s t u v h a b j =
      share_shorter (omega arith) (share_after u a.reached b.reached (cycle_share v a.knot b.knot h a.back b.back j))

  -- a run that is in one state twice
  run_lasso : (L : ℕ) (c f : ℕ → ℕ) → Run S L c f → (i j : ℕ) → i < j → j ≤ L → f i ≡ f j → Lasso S (f 0) (spell c 0 i) (spell c i (j - i))
  run_lasso L c f r i j h k e = record {
    knot = f i;
    reached = run_path S L c f r 0 i i (omega arith) (omega arith);
    back = subst (Path S (f i) (spell c i (j - i))) (sym e) (run_path S L c f r i (j - i) j (omega arith) k);
  }

  -- two runs over the same letters that are in one pair of states twice
  pub run_twin : (L : ℕ) (c f g : ℕ → ℕ) → Run S L c f → Run S L c g → L ≤ S.n * S.n → (i j : ℕ) → i < j → j ≤ L → f i ≡ f j → g i ≡ g j
      → Twin S (f 0) (g 0)
  run_twin L c f g run_f run_g short i j h k x y = record {
    stem = spell c 0 i;
    cycle = spell c i (j - i);
    turns = rw length_spell (omega arith);
    short = simp length_spell (omega arith);
    left = run_lasso L c f run_f i j h k x;
    right = run_lasso L c g run_g i j h k y;
  }

  module _ (W : Within S) (s t : ℕ) (a : s < S.n) (b : t < S.n) where
    pub share_twin : Share S (S.n * S.n) s t → Twin S s t
    share_twin h =
        let r = repeats (S.n * S.n) (λ i. ordered S.n (f i) (g i))
        (λ i k. ordered_lt S.n (f i) (g i) (f_lt i (omega arith)) (g_lt i (omega arith))) in
        let (x, y) = ordered_inj S.n (f r.i) (g r.i) (f_lt r.i (omega arith)) (g_lt r.i (omega arith)) (f r.j) (g r.j)
        (g_lt r.j (omega arith)) r.same in
        run_twin (length w) c f g run_f run_g (omega arith) r.i r.j r.before (omega arith) x y
      where
        w : List ℕ
        w = h.word

        c : ℕ → ℕ
        c i = get_or w i 0

        f : ℕ → ℕ
        f = trace S w s h.left.0 h.left.1

        g : ℕ → ℕ
        g = trace S w t h.right.0 h.right.1

        run_f : Run S (length w) c f
        run_f = trace_run S w s h.left.0 h.left.1

        run_g : Run S (length w) c g
        run_g = trace_run S w t h.right.0 h.right.1

        f_lt : (i : ℕ) → i ≤ length w → f i < S.n
        f_lt = run_lt S W (length w) c f run_f a

        g_lt : (i : ℕ) → i ≤ length w → g i < S.n
        g_lt = run_lt S W (length w) c g run_g b

    pub share_ever : Share S (S.n * S.n) s t → (j : ℕ) → Share S j s t
    share_ever h = let z = share_twin h in lasso_share s t z.stem z.cycle z.turns z.left z.right

    pub live_ever : live S (S.n * S.n) s t ≡ true → (j : ℕ) → live S j s t ≡ true
    live_ever e j = live_in S W (share_ever (live_out S (S.n * S.n) s t e) j)
