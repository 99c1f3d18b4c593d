use Rattle.std.proofs.Common.{ℕ, ◌+◌, ◌-◌, ◌≤◌, ◌<◌, ◌^◌, ◌≡◌, suc, length, arith, sym, ◌∙◌}
use Rattle.bitset.specs.Numbers.{has}
use Rattle.bitset.proofs.Bits.{has_lt, set_of_lt}
use Rattle.bitset.proofs.Counts.{ones_size}
use Rattle.semiautomata.specs.Means.{means}
use Rattle.walks.proofs.Steps.{means_within}
use Rattle.walks.proofs.Letters.{letters_drop}
use Rattle.slices.proofs.Parts.{part_whole}
use Rattle.deciding.proofs.Judging.{due_set, due_sole, due_last, due_any}
use Rattle.deciding.proofs.due.Goals as goal

pub returns-then-k-eq0 : goal.returns-then-k-eq0
returns-then-k-eq0 c =
    let a = c.args in
    let last : suc (length a.held.now) - a.k ≡ suc (length a.held.now) = omega (arith, c.if-k-eq0.true) in
    due_any a.succ.now a.k a.base a.held.now a.letter
    (rw last (due_last (means a.succ.now) (has a.base) a.held.now a.letter c.requires.2.3))

pub returns-then-here-eq1 : goal.returns-then-here-eq1
returns-then-here-eq1 c =
    let a = c.args in
    let x = a.succ.now in
    let at : ℕ = length a.held.now + 1 - a.k in
    let here = c.reach_by-here.ensures x.starts in
    let below : c.reach_by-here.result < 2 ^ x.n = rw here (set_of_lt x.n _) in
    let due : suc (length a.held.now) - a.k ≡ at = omega arith in
    due_any x a.k a.base a.held.now a.letter
    (rw due
    (due_sole (means x) (has a.base) a.held.now a.letter (means_within x) (λ s f. has_lt x.n a.base s c.requires.0 f) at (omega (arith, c.if-k-eq0.false))
    here (sym (ones_size x.n _ below) ∙ c.if-here-eq1.true) c.requires.2.3 c.requires.2.2))

pub survivors_with-requires : goal.survivors_with-requires
survivors_with-requires c =
    let a = c.args in
    let h = a.held.now in
    let at : ℕ = length h + 1 - a.k in
    let inside : at ≤ length h = omega (arith, c.if-k-eq0.false) in (
      rw (c.reach_by-here.ensures 0) (set_of_lt a.succ.now.n _),
      rw (part_whole at (length h - at) h (omega arith)) (letters_drop at c.requires.2.0),
      c.requires.2.1,
    )

pub returns : goal.returns
returns c =
    let a = c.args in
    let h = a.held.now in
    let at : ℕ = length h + 1 - a.k in
    let inside : at ≤ length h = omega (arith, c.if-k-eq0.false) in
    let due : suc (length h) - a.k ≡ at = omega arith in
    due_any a.succ.now a.k a.base h a.letter
    (rw due
    (due_set (means a.succ.now) (has a.base) h a.letter at inside (c.reach_by-here.ensures _)
    (rw (part_whole at (length h - at) h (omega arith)) at (c.survivors_with.ensures a.succ.now.starts))))
