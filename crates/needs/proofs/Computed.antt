-- Whether numbers tell the needs of a semiautomaton, as tests that compute.
-- Assumes nothing.
use Prim.Native.Nat.{ℕ, zero, suc, ◌*◌, ◌≤◌}
use mathlib.Core.Bool.{Bool, true, false, cond, not, ◌&&◌, true≢false}
use mathlib.Core.Path.{◌≡◌, sym, ◌∙◌}
use mathlib.Core.Logic.{inl, inr}
use mathlib.Core.List.{List}
use native.Mathlib.Omega.{arith}
use lib.Dec.{eqb}
use lib.ListN.{length, get_or}
use borrow.Author.Tests.{eqb-true, not-true, not-false}
use Rattle.bitset.specs.Sets.{any}
use Rattle.bitset.proofs.Tests.{and_in, and_out, decided}
use Rattle.bitset.proofs.Below.{any_in, any_out, any_not}
use Rattle.semiautomata.specs.Semiautomaton.{Semiautomaton, Within}
use Rattle.semiautomata.specs.Predictability.{Critical, initial, fork, member, Need}
use Rattle.semiautomata.specs.Levels.{counts, clash_in}
use Rattle.semiautomata.proofs.Shares.{member_lt, clash_shorter}
use Rattle.semiautomata.proofs.Decide.{counts_in, counts_out, clash_in_in, clash_in_out, clash_endless, need_first}
use Rattle.semiautomata.specs.Sizes.{endless, unmeasured}
use Rattle.needs.specs.Needs.{Measured, Says, Of, place_of, entries, TellsNeeds}
use Rattle.needs.proofs.Saying.{says_idle, says_endless, says_need}

-- the set counts and is not empty; it has this need
abbrev measured : Semiautomaton → Critical → Bool
measured S T = counts S T && any S.n (member S T)

abbrev needs : Semiautomaton → (ℕ → Bool) → ℕ → Bool
needs S X zero = not (clash_in S X 0)
needs S X (suc k) = clash_in S X k && not (clash_in S X (suc k))

-- the number says what it should: a set without a need clashes with n × n letters
abbrev says : Semiautomaton → Critical → ℕ → Bool
says S T v = cond (eqb v unmeasured) (not (measured S T))
    (measured S T && cond (eqb v endless) (clash_in S (member S T) (S.n * S.n)) (needs S (member S T) v))

-- .. each of them does
abbrev pub tells : Semiautomaton → List ℕ → Bool
tells S numbers =
    eqb (length numbers) (entries S) && (says S initial (get_or numbers 0 0)
    && not (any S.n λ q. any S.m λ a. not (says S (fork q a) (get_or numbers (place_of S (fork q a)) 0))))

module _ (S : Semiautomaton) (W : Within S) (few : S.n ≤ 64) where
  measured_out : (T : Critical) → measured S T ≡ true → Measured S T
  measured_out T e =
      let (a, b) = and_out (counts S T) _ e in
      let (s, _, f) = any_out S.n _ b in
      (counts_out S T a, (s, f))

  measured_in : (T : Critical) → Measured S T → measured S T ≡ true
  measured_in T (c, (s, e)) = and_in _ _ (counts_in S W T c) (any_in S.n _ s (member_lt W T s e) e)

  needs_out : (T : Critical) (k : ℕ) → needs S (member S T) k ≡ true → Need S (member S T) k
  needs_out T zero e = need_first S W _ (member_lt W T) 0 (λ j h. absurd (omega arith)) (not-true _ e)
  needs_out T (suc k) e =
      let (a, b) = and_out (clash_in S (member S T) k) _ e in
      need_first S W _ (member_lt W T) (suc k)
      (λ j h. clash_in_in S W _ (member_lt W T) j (clash_shorter (omega arith) (clash_in_out S _ k a))) (not-true _ b)

  says_so : (T : Critical) (v : ℕ) → says S T v ≡ true → Says S T v
  says_so T v e = elim (decided (eqb v unmeasured)) [
    | inl z ↦
        let off : measured S T ≡ false = not-true _ (rw z at e) in
        rw (eqb-true v unmeasured z) (says_idle (λ M. true≢false (sym (measured_in T M) ∙ off)))
    | inr z ↦
        let (m, f) = and_out (measured S T) _ (rw z at e) in
        elim (decided (eqb v endless)) [
          | inl y ↦ rw (eqb-true v endless y) (says_endless (measured_out T m) (clash_endless S W (member S T) (member_lt W T) (rw y at f)))
          | inr y ↦ says_need W few T v (measured_out T m) (needs_out T v (rw y at f))
        ]
  ]

  pub tells_so : (numbers : List ℕ) → tells S numbers ≡ true → TellsNeeds S numbers
  tells_so numbers e =
      let (a, f) = and_out (eqb (length numbers) (entries S)) _ e in
      let (b, g) = and_out (says S initial (get_or numbers 0 0)) _ f in
      record { long = eqb-true (length numbers) (entries S) a; says = each b (not-true _ g) }
    where
      each : says S initial (get_or numbers 0 0) ≡ true
          → any S.n (λ q. any S.m λ a. not (says S (fork q a) (get_or numbers (place_of S (fork q a)) 0))) ≡ false
          → (T : Critical) → Of S T → Says S T (get_or numbers (place_of S T) 0)
      each b g initial _ = says_so initial _ b
      each b g (fork q a) (h, l) = says_so (fork q a) _ (not-false _ (any_not S.m _ (any_not S.n _ g q h) a l))
