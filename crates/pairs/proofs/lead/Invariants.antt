use Rattle.std.proofs.Common.{◌≡◌, ℕ, ◌<◌, false, None, get_or}
use mathlib.Core.Bool.{◌&&◌}
use lib.Bits.{bit_and}
use Rattle.bitset.specs.Sets.{any}
use Rattle.bitset.specs.Numbers.{has}
use Rattle.bitset.proofs.Taking.{Left, Passed}
use Rattle.semiautomata.specs.Successors.{set_at}
use Rattle.rows.specs.Rows.{pair}
use Rattle.pairs.proofs.Leading.{leads_by}
use Rattle.pairs.proofs.lead.Given as goal

abbrev pub invariant-letters : goal.invariant-letters
invariant-letters l = (l.step ≡ None) × ((k : ℕ) → k < l.letter → leads_by l.succ l.rows l.s l.t k ≡ false)

abbrev pub invariant-firsts : goal.invariant-firsts
invariant-firsts l =
    let from = set_at l.succ.m l.succ.sets.now l.s l.letter in
    (l.step ≡ None) × Left l.succ.n from l.first-iterator.rest
    × Passed from l.first-iterator.rest (λ r. any l.succ.n λ u. has (set_at l.succ.m l.succ.sets.now l.t l.letter) u && pair l.rows r u)

-- only its first turn is ever begun
abbrev pub invariant-seconds : goal.invariant-seconds
invariant-seconds l = (l.step ≡ None) × (l.second-iterator.rest ≡ bit_and l.seconds (get_or l.rows l.first 0))
