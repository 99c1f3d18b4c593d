-- What the steps of the check promise each other.
-- Assumes nothing.
use Rattle.std.specs.Prelude.{ℕ, Bool, true, false, ◌≡◌, List}
use Rattle.std.proofs.Math.Option.{some}
use Rattle.bitset.specs.Numbers.{has}
use Rattle.semiautomata.specs.Semiautomaton.{Semiautomaton, Path}
use Rattle.semiautomata.specs.Predictability.{Critical, member, named, Counts, Lasso}
use Rattle.lookahead.specs.declared.Evidence.{Evidence}
use Rattle.lookahead.specs.Answers.{TrueOf}

-- The number has exactly the states of the critical set that two numbers name, if it counts; else none.
pub record NamedSet (S : Semiautomaton) (q a set : ℕ) : Type 0 where
  pub from : (x : ℕ) → has set x ≡ true → (T : Critical) × (named S q a ≡ some T) × Counts S T × (member S T x ≡ true)
  pub into : (T : Critical) → named S q a ≡ some T → Counts S T → (x : ℕ) → member S T x ≡ true → has set x ≡ true

-- The answer says whether some member of the set is led back to itself by the cycle.
pub record LedBack (S : Semiautomaton) (set : ℕ) (cycle : List ℕ) (r : Bool) : Type 0 where
  pub yes_so : r ≡ true → (x : ℕ) × (has set x ≡ true) × Path S x cycle x
  pub no_so : r ≡ false → (x : ℕ) → has set x ≡ true → ¬ Path S x cycle x

-- The answer says whether the claim is true of S.
abbrev pub Truth : Semiautomaton → Evidence → List ℕ → Bool → Type 0
Truth S c letters r = (r ≡ true → TrueOf S c letters) × (r ≡ false → ¬ TrueOf S c letters)

-- The answer says whether some state is reached from s by the stem and led back to itself by the cycle.
pub record Loops (S : Semiautomaton) (s : ℕ) (stem cycle : List ℕ) (r : Bool) : Type 0 where
  pub yes_so : r ≡ true → Lasso S s stem cycle
  pub no_so : r ≡ false → ¬ Lasso S s stem cycle
