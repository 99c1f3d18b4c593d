-- From round to round: the pairs that are struck get their lifetimes, the others are said to live for ever; in the end no rivals are among
-- these, or they do.
-- Assumes nothing.
use mathlib.Core.Bool.{true, false, false≢true, ◌&&◌}
use mathlib.Core.Logic.{inl, inr}
use mathlib.Core.Path.{◌≡◌, refl, sym, ◌∙◌}
use mathlib.Core.List.{List}
use Prim.Native.Nat.{ℕ, suc, ◌≤◌, ◌<◌}
use native.Mathlib.Nat.{lt_of_lt_of_le}
use native.Mathlib.Decide.{ℕ_discrete}
use native.Mathlib.Omega.{arith}
use lib.Dec.{ltb}
use lib.ListN.{length, replicate, length-replicate, get_or-replicate}
use borrow.Author.Tests.{lt-ltb}
use Rattle.bitset.proofs.Tests.{decided, not_so}
use Rattle.semiautomata.specs.Semiautomaton.{Semiautomaton}
use Rattle.semiautomata.specs.Predictability.{Share}
use Rattle.semiautomata.specs.Sizes.{max_states, endless}
use Rattle.semiautomata.proofs.Shares.{share_zero, share_shorter}
use Rattle.semiautomata.proofs.BySets.{place_lt}
use Rattle.rows.specs.Rows.{pair, Apart}
use Rattle.pairs.specs.Sharing.{Level, Lasting}
use Rattle.pairs.specs.Lifetimes.{Lifetime, max_pairs, lifetime, Timed}
use Rattle.pairs.specs.inner.Rounds.{Ends}
use Rattle.pairs.specs.inner.Noting.{Noted, NotedWhere}

-- the pairs of the rows are said to live for ever, the others have their lifetimes
pub record Marked (S : Semiautomaton) (rows numbers : List ℕ) : Type 0 where
  pub long : length numbers ≡ max_pairs
  pub live : (s t : ℕ) → s < S.n → t < S.n → pair rows s t ≡ true → lifetime numbers s t ≡ endless
  pub over : (s t : ℕ) → s < S.n → t < S.n → pair rows s t ≡ false → Lifetime S s t (lifetime numbers s t)

module _ {S : Semiautomaton} (few : S.n ≤ max_states) where
  pub marked_first : {rows numbers : List ℕ} → Level S 0 rows → numbers ≡ replicate max_pairs endless → Marked S rows numbers
  marked_first {rows} {numbers} L e = record {
    long = rw e (length-replicate {A = ℕ} max_pairs endless);
    live = λ s t hs ht _. marked s t (lt_of_lt_of_le hs few) (lt_of_lt_of_le ht few);
    over = λ s t hs ht off. absurd (false≢true (sym off ∙ (L.is s t hs ht).1 share_zero));
  }
    where
      marked : (s t : ℕ) → s < max_states → t < max_states → lifetime numbers s t ≡ endless
      marked s t hs ht = rw e (get_or-replicate max_pairs _ endless 0 (place_lt max_states max_states s t hs ht))

  pub marked_next : {rows next struck old new : List ℕ} {gone j : ℕ} → Level S j rows → Level S (suc j) next → Ends S j struck gone
      → suc j < endless → Noted (λ s t. ltb s S.n && pair struck s t) (suc j) old new → Marked S rows old → Marked S next new
  marked_next {rows} {next} {struck} {old} {new} {gone} {j} L N E h k i = record {
    long = k.long ∙ i.long;
    live = λ s t hs ht e.
        let sh = (N.is s t hs ht).0 e in
        let off : pair struck s t ≡ false = not_so _ (λ q. ((E.last.is s t hs ht).0 q).1 sh) in
        k.is s t (lt_of_lt_of_le ht few) ∙ rw (lt-ltb s S.n hs, off)
        (i.live s t hs ht ((L.is s t hs ht).1 (share_shorter (omega arith) sh)));
    over = λ s t hs ht e. elim (decided (pair rows s t)) [
      | inl on ↦
          let sh = (L.is s t hs ht).0 on in
          let ends : ¬ Share S (suc j) s t = λ x. false≢true (sym e ∙ (N.is s t hs ht).1 x) in
          let now : pair struck s t ≡ true = (E.last.is s t hs ht).1 (sh, ends) in
          let number : lifetime new s t ≡ suc j = k.is s t (lt_of_lt_of_le ht few) ∙ rw (lt-ltb s S.n hs, now) in
          rw number (record { lives = λ i l. share_shorter (omega arith) sh; ends = λ _. ends; lasts = λ q. absurd (omega arith) })
      | inr off ↦
          let before : pair struck s t ≡ false =
          not_so _ (λ q. false≢true (sym off ∙ (L.is s t hs ht).1 ((E.last.is s t hs ht).0 q).0)) in
          let number : lifetime new s t ≡ lifetime old s t = k.is s t (lt_of_lt_of_le ht few) ∙ rw (lt-ltb s S.n hs, before) in
          rw number (i.over s t hs ht off)
    ];
  }

-- numbers that are lent or not: those that are not as many as there are pairs are kept
pub record Noting (S : Semiautomaton) (rows old numbers : List ℕ) : Type 0 where
  pub long : length numbers ≡ length old
  pub marked : old ≡ replicate max_pairs endless → Marked S rows numbers
  pub kept : ¬ (length old ≡ max_pairs) → numbers ≡ old

module _ {S : Semiautomaton} (few : S.n ≤ max_states) {rows old : List ℕ} where
  pub noting_first : Level S 0 rows → Noting S rows old old
  noting_first L = record { long = refl; marked = λ e. marked_first few L e; kept = λ _. refl }

  module _ {numbers : List ℕ} (k : Noting S rows old numbers) where
    pub noting_next : {next struck new : List ℕ} {gone j : ℕ} → Level S j rows → Level S (suc j) next → Ends S j struck gone
        → suc j < endless → NotedWhere (λ s t. ltb s S.n && pair struck s t) (suc j) numbers new → Noting S next old new
    noting_next {next} {struck} {new} {gone} {j} L N E h (written, kept) = elim (ℕ_discrete (length numbers) max_pairs) [
      | yes e ↦ record {
        long = (written e).long ∙ k.long;
        marked = λ all. marked_next few L N E h (written e) (k.marked all);
        kept = λ ne. absurd (ne (sym k.long ∙ e));
      }
      | no ne ↦ record {
        long = rw (kept ne) k.long;
        marked = λ all. absurd (ne (k.long ∙ rw all (length-replicate {A = ℕ} max_pairs endless)));
        kept = λ few. rw (kept ne) (k.kept few);
      }
    ]

    -- no rivals are among the live pairs, or these live for ever
    pub noting_parted : {rival : List ℕ} → Apart rows rival S.n → Timed S rival old numbers
    noting_parted a = (
      λ all. record {
        is = λ high low h g r.
            let over = (k.marked all).over high low g (omega arith) in
            elim (decided (pair rows high low)) [ inl on ↦ absurd (a.none high g low h on r) | inr off ↦ over off ];
      },
      k.kept,
    )

    pub noting_stable : {rival : List ℕ} → Lasting S rows → Timed S rival old numbers
    noting_stable l = (
      λ all. record {
        is = λ high low h g _.
            let low-lt : low < S.n = omega arith in
            elim (decided (pair rows high low)) [
              | inl on ↦
                  let share = l.share high low g low-lt on in
                  rw ((k.marked all).live high low g low-lt on)
                  (record { lives = λ j _. share j; ends = λ ne. absurd (ne refl); lasts = λ _. share })
              | inr off ↦ (k.marked all).over high low g low-lt off
            ];
      },
      k.kept,
    )
