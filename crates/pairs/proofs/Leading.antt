-- The search for a letter that leads two states on to a pair of the rows.
-- Assumes nothing.
use mathlib.Core.Bool.{Bool, true, false, ◌&&◌, false≢true}
use mathlib.Core.Path.{◌≡◌, sym, ◌∙◌}
use mathlib.Core.List.{List}
use Prim.Native.Nat.{ℕ, ◌^◌, ◌≤◌, ◌<◌}
use lib.Bits.{bit_and}
use Rattle.std.specs.Prelude.{Option, None, Some}
use Rattle.std.specs.Option.{is_some}
use Rattle.bitset.specs.Sets.{any}
use Rattle.bitset.specs.Numbers.{has}
use Rattle.bitset.specs.Members.{Taken}
use Rattle.bitset.proofs.Tests.{and_in, and_out, not_so}
use Rattle.bitset.proofs.Below.{any_in, any_none, with_any}
use Rattle.bitset.proofs.Bits.{has_and, has_empty, and_fits}
use Rattle.bitset.proofs.Taking.{left_first, next_in}
use Rattle.semiautomata.specs.Semiautomaton.{Semiautomaton}
use Rattle.semiautomata.specs.Successors.{set_at}
use Rattle.semiautomata.specs.Means.{means}
use Rattle.semiautomata.specs.declared.successors.Successors.{Successors}
use Rattle.semiautomata.proofs.Levels.{with_and}
use Rattle.semiautomata.proofs.BySets.{edge_out, edge_is}
use Rattle.rows.specs.Rows.{pair}
use Rattle.walks.proofs.Steps.{means_within}
use Rattle.pairs.specs.Sharing.{leads, Leads, Led}
use Rattle.pairs.specs.declared.Step.{Step}

module _ (S : Semiautomaton) (rows : List ℕ) (s t : ℕ) where
  pub leads_in : {a r u : ℕ} → a < S.m → r < S.n → u < S.n → Leads S rows s t a r u → leads S rows s t ≡ true
  unfolding leads
  leads_in {a} {r} {u} ha hr hu l =
      any_in _ _ a ha (any_in _ _ r hr (any_in _ _ u hu (and_in _ _ l.first (and_in _ _ l.second l.lives))))

  pub leads_out : leads S rows s t ≡ true
      → (a : ℕ) × (r : ℕ) × (u : ℕ) × (a < S.m) × (r < S.n) × (u < S.n) × Leads S rows s t a r u
  unfolding leads
  leads_out = with_any _ _ λ a ha. with_any _ _ λ r hr. with_any _ _ λ u hu. with_and _ _ λ p. with_and _ _ λ q e.
      (a, r, u, ha, hr, hu, record { first = p; second = q; lives = e })

module _ (A : Successors) (rows : List ℕ) (s t : ℕ) where
  -- letter a leads them on
  abbrev pub leads_by : ℕ → Bool
  leads_by a = any A.n λ r. has (set_at A.m A.sets.now s a) r && any A.n λ u. has (set_at A.m A.sets.now t a) u && pair rows r u

  -- it has come to such a letter
  pub leads_hit : {a r u : ℕ} → s < A.n → t < A.n → a < A.m
      → has (set_at A.m A.sets.now s a) r ≡ true → has (set_at A.m A.sets.now t a) u ≡ true → pair rows r u ≡ true
      → Leads (means A) rows s t a r u
  leads_hit {a} {r} {u} hs ht ha p q e = record {
    first = edge_is A.n A.m A.starts A.sets.now s a r hs ha ∙ p;
    second = edge_is A.n A.m A.starts A.sets.now t a u ht ha ∙ q;
    lives = e;
  }

  -- it has passed every letter
  pub leads_none : ((a : ℕ) → a < A.m → leads_by a ≡ false) → leads (means A) rows s t ≡ false
  leads_none f = not_so _ λ e.
      let (a, r, u, ha, hr, hu, l) = leads_out (means A) rows s t e in
      let p = (edge_out A.n A.m A.starts A.sets.now s a r l.first).2 in
      let q = (edge_out A.n A.m A.starts A.sets.now t a u l.second).2 in
      false≢true (sym (f a ha) ∙ any_in A.n _ r hr (and_in _ _ p (any_in A.n _ u hu (and_in _ _ q l.lives))))

-- a letter is found exactly if there is one
pub led_is : (A : Successors) (rows : List ℕ) (s t : ℕ) (r : Option Step) → Led (means A) rows s t r
    → is_some r ≡ leads (means A) rows s t
led_is A rows s t None e = sym e
led_is A rows s t (Some r) l =
    let W = means_within A in
    let a = W.letter_lt s r.letter r.first l.first in
    sym (leads_in (means A) rows s t a (W.to_lt s r.letter r.first l.first) (W.to_lt t r.letter r.second l.second) l)

-- a member of a set that a row has too is searched for, and none is there
pub met_some : (n set row : ℕ) {u left : ℕ} → n ≤ 64 → set < 2 ^ n → Taken (bit_and set row) u left → (has set u ≡ true) × (has row u ≡ true)
met_some n set row {u} w f t =
    and_out _ _ (sym (has_and set row u) ∙ next_in (left_first n (bit_and set row) w (and_fits n set row f)) t)

pub met_none : (n set row : ℕ) → bit_and set row ≡ 0 → any n (λ u. has set u && has row u) ≡ false
met_none n set row e = any_none n _ (λ u _. sym (has_and set row u) ∙ rw e (has_empty u))
