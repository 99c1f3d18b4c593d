-- Where a walk ends: once a letter leads nowhere, no longer beginning can be walked.
-- Assumes nothing.
use Prim.Native.Nat.{ℕ, ◌+◌, ◌≤◌, ◌<◌}
use mathlib.Core.Bool.{true, false, true≢false}
use mathlib.Core.Path.{◌≡◌, sym, ◌∙◌}
use mathlib.Core.List.{List}
use native.Mathlib.Omega.{arith}
use native.Mathlib.Decide.{dec_lt}
use lib.ListN.{length, take}
use lib.Seq.{take_all, take-length, take-take}
use Rattle.bitset.specs.Sets.{any}
use Rattle.bitset.proofs.Below.{with_any}
use Rattle.semiautomata.specs.Semiautomaton.{Semiautomaton, Within}
use Rattle.semiautomata.specs.Walks.{OnPlan, Longest, reach, longest}
use Rattle.semiautomata.proofs.Paths.{spells_take}
use Rattle.semiautomata.proofs.Computed.{walkable_in, walkable_out, walkable_reach, greatest_le, longest_unique, longest_is}

pub longest_le : (S : Semiautomaton) (w : List ℕ) {g : ℕ} → g ≡ longest S w → g ≤ length w
unfolding longest
longest_le S w e = rw e (greatest_le _ (length w))

module _ (S : Semiautomaton) (W : Within S) (w : List ℕ) where
  pub longest_some : any S.n S.initial ≡ true → Longest S w (longest S w)
  longest_some = with_any _ _ (λ s _ e. longest_is S W s e w)

  -- the language is prefix-closed
  on_plan_take : (g h : ℕ) → g ≤ h → OnPlan S (take h w) → OnPlan S (take g w)
  on_plan_take g h l o =
      record {
        start = o.start;
        from_it = o.from_it;
        spells =
            rw (take-take g h w l) at (spells_take S g (take h w) o.start o.spells);
      }

  -- the walk leads somewhere by g letters, and by one more nowhere
  module _ (g : ℕ) (fits : g ≤ length w) (here : any S.n (reach S S.initial (take g w)) ≡ true)
      (next : g < length w → any S.n (reach S S.initial (take (g + 1) w)) ≡ false) where
    walked : OnPlan S (take g w)
    walked = walkable_out S S.initial (take g w) (walkable_reach S W S.initial W.initial_lt (take g w) ∙ here)

    most : (h : ℕ) → h ≤ length w → OnPlan S (take h w) → h ≤ g
    most h l o = elim (dec_lt g h) [
      | no k ↦ omega arith
      | yes k ↦
          let o = on_plan_take (g + 1) h (omega arith) o in
          absurd (true≢false (sym (walkable_in S W S.initial W.initial_lt _ o) ∙ walkable_reach S W S.initial W.initial_lt _
          ∙ next (omega arith)))
    ]

    pub longest_at : g ≡ longest S w
    longest_at = longest_unique S w g _ (record { fits = fits; walked = walked; most = most })
        (longest_is S W walked.start walked.from_it w)

  -- a word that leads somewhere is its own longest beginning
  pub longest_whole : any S.n (reach S S.initial w) ≡ true → {g : ℕ} → g ≡ longest S w → take g w ≡ w
  longest_whole some {g} e =
      take_all g w (omega (arith, e, longest_at (length w) (omega arith) (rw (take-length w) some) (λ h. absurd (omega arith))))
