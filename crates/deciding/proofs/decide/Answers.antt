use Rattle.std.proofs.Common.{arith}
use Rattle.bitset.proofs.Bits.{set_of_lt}
use Rattle.streaming.specs.PlainWalk.{limit}
use Rattle.records.specs.Bytes.{decode}
use Rattle.semiautomata.specs.Means.{means}
use Rattle.deciding.proofs.Standing.{from_is, from_lt, not_full, standing_some, standing_none}
use Rattle.deciding.proofs.Judging.{judged_10, judged_11, judged_12, judged_13, reached_from, judged_nothing, judged_resolved}
use Rattle.deciding.proofs.decide.Goals as goal

pub returns-then-here-eq0 : goal.returns-then-here-eq0
returns-then-here-eq0 c =
    let a = c.args in
    judged_10 (means a.succ.now) a.k a.rec.now a.letter
    (standing_none a.succ.now a.k a.rec.now c.requires.0 c.stand-here.ensures c.if-here-eq0.true)

pub returns-then-fed-eq-LIMIT : goal.returns-then-fed-eq-LIMIT
unfolding limit
returns-then-fed-eq-LIMIT c =
    let a = c.args in
    let s = standing_some a.succ.now a.k a.rec.now c.requires.0 c.stand-here.ensures c.if-here-eq0.false in
    judged_11 a.succ.now s a.letter (omega (arith, c.fed_of-fed.ensures, c.if-fed-eq-LIMIT.true))

pub returns-then-succ-a : goal.returns-then-succ-a
returns-then-succ-a c =
    let a = c.args in
    let s = standing_some a.succ.now a.k a.rec.now c.requires.0 c.stand-here.ensures c.if-here-eq0.false in
    judged_12 a.succ.now s a.letter (not_full s c.fed_of-fed.ensures c.if-fed-eq-LIMIT.false) c.if-succ-a.true

pub gather-next-requires : goal.gather-next-requires
gather-next-requires c =
    let a = c.args in
    let s = standing_some a.succ.now a.k a.rec.now c.requires.0 c.stand-here.ensures c.if-here-eq0.false in
    (rw s.is (set_of_lt a.succ.now.n _), c.if-succ-a.false)

pub returns-then-next-eq0 : goal.returns-then-next-eq0
returns-then-next-eq0 c =
    let a = c.args in
    let s = standing_some a.succ.now a.k a.rec.now c.requires.0 c.stand-here.ensures c.if-here-eq0.false in
    judged_13 a.succ.now s a.letter (not_full s c.fed_of-fed.ensures c.if-fed-eq-LIMIT.false) c.if-succ-a.false (c.gather-next.ensures.0 _)
    c.if-next-eq0.true

pub returns-then-taken-k : goal.returns-then-taken-k
returns-then-taken-k c =
    let a = c.args in
    let s = standing_some a.succ.now a.k a.rec.now c.requires.0 c.stand-here.ensures c.if-here-eq0.false in
    judged_nothing a.succ.now s a.letter (not_full s c.fed_of-fed.ensures c.if-fed-eq-LIMIT.false) c.if-succ-a.false (c.gather-next.ensures.0 _)
    c.if-next-eq0.false (omega (arith, c.if-taken-k.true, c.fed_of-fed.ensures))

pub letters_of-requires : goal.letters_of-requires
letters_of-requires c =
    let a = c.args in
    let s = standing_some a.succ.now a.k a.rec.now c.requires.0 c.stand-here.ensures c.if-here-eq0.false in
    omega (arith, s.keeps.held_is, c.requires.0)

pub due-set-requires : goal.due-set-requires
due-set-requires c =
    let a = c.args in
    let x = a.succ.now in
    let s = standing_some x a.k a.rec.now c.requires.0 c.stand-here.ensures c.if-here-eq0.false in
    let fed = c.fed_of-fed.ensures in
    let held = c.letters_of.ensures in
    let is = from_is x a.k (decode a.rec.now) s.keeps.last_lt c.base_of-base.ensures fed in (
      from_lt x a.k (decode a.rec.now) s.keeps.last_lt c.base_of-base.ensures fed,
      rw (held, s.long, s.keeps.held_is) (omega (arith, c.if-taken-k.false, fed)),
      (rw held s.letters, c.if-succ-a.false, c.if-next-eq0.false, reached_from s _ is held a.letter (c.gather-next.ensures.0 _)),
    )

pub resolve-requires : goal.resolve-requires
unfolding limit
resolve-requires c =
    let a = c.args in
    let s = standing_some a.succ.now a.k a.rec.now c.requires.0 c.stand-here.ensures c.if-here-eq0.false in
    omega (arith, not_full s c.fed_of-fed.ensures c.if-fed-eq-LIMIT.false, c.fed_of-fed.ensures)

pub returns : goal.returns
returns c =
    let a = c.args in
    let x = a.succ.now in
    let s = standing_some x a.k a.rec.now c.requires.0 c.stand-here.ensures c.if-here-eq0.false in
    let fed = c.fed_of-fed.ensures in
    judged_resolved x s a.letter (not_full s fed c.if-fed-eq-LIMIT.false) c.if-succ-a.false (c.gather-next.ensures.0 _) c.if-next-eq0.false
    (omega (arith, c.if-taken-k.false, fed)) _ (from_is x a.k (decode a.rec.now) s.keeps.last_lt c.base_of-base.ensures fed)
    c.letters_of.ensures (c.due-set.ensures _) fed _ c.resolve.ensures
