-- Rivals put into rows, and a critical set named that has two. What the inner functions promise each other.
-- Assumes nothing.
use Rattle.std.specs.Prelude.{ℕ, ◌<◌, Bool, true, ◌&&◌, ◌||◌, ◌≡◌, List}
use Rattle.std.proofs.Math.Option.{some}
use Rattle.bitset.specs.Sets.{any}
use Rattle.bitset.specs.Numbers.{has}
use Rattle.semiautomata.specs.Semiautomaton.{Semiautomaton}
use Rattle.semiautomata.specs.Predictability.{named}
use Rattle.semiautomata.specs.Successors.{set_at}
use Rattle.semiautomata.specs.declared.successors.Successors.{Successors}
use Rattle.rows.specs.Rows.{pair}
use Rattle.pairs.specs.Sharing.{Lasting}
use Rattle.pairs.specs.declared.Endless.{Endless}
use Rattle.lookahead.specs.Rivals.{Together}

-- two numbers name such a set
pub record Named (S : Semiautomaton) (q a s t : ℕ) : Type 0 where
  pub together : Together S s t
  pub names : named S q a ≡ some together.set

-- the different states of the set are paired with each other, and no other two different states are
pub record Matched (set : ℕ) (old new : List ℕ) : Type 0 where
  pub is : (s t : ℕ) → ¬ (s ≡ t) → pair new s t ≡ (pair old s t || has set s && has set t)

-- letter a leads to both s and t from q
abbrev pub both : Successors → ℕ → ℕ → ℕ → ℕ → Bool
both x q s t a = has (set_at x.m x.sets.now q a) s && has (set_at x.m x.sets.now q a) t

-- the different states of each fork set of q by a letter below i are paired with each other, and no other two are
pub record Forked (x : Successors) (q i : ℕ) (old new : List ℕ) : Type 0 where
  pub is : (s t : ℕ) → ¬ (s ≡ t) → pair new s t ≡ (pair old s t || any i (both x q s t))

-- the two are together in some critical set that counts and share words of every length, and so do exactly the live pairs
pub record Lasts (S : Semiautomaton) (e : Endless) : Type 0 where
  pub lasting : Lasting S e.live
  pub order : e.low < e.high
  pub together : Together S e.low e.high
  pub lives : pair e.live e.low e.high ≡ true
