use Rattle.std.proofs.Common.{◌+◌, ◌-◌, ◌≤◌, ◌≡◌, length, suc, refl, sym, arith}
use Rattle.semiautomata.specs.Means.{means}
use Rattle.records.specs.Bytes.{decode}
use Rattle.deciding.proofs.Standing.{from_is, from_lt, standing_some}
use Rattle.deciding.proofs.Unresolved.{open_sets_lem, open_count, base_some, held_whole}
use Rattle.deciding.proofs.list_open.Goals as goal

pub letters_of-held-requires : goal.letters_of-held-requires
letters_of-held-requires c =
    let a = c.args in
    let s = standing_some a.succ.now a.k a.rec.now c.requires.2 refl c.requires.3 in
    omega (arith, s.keeps.held_is, c.requires.2)

pub trace-upto-requires : goal.trace-upto-requires
trace-upto-requires c =
    let a = c.args in
    let x = a.succ.now in
    let s = standing_some x a.k a.rec.now c.requires.2 refl c.requires.3 in
    let held = c.letters_of-held.ensures in
    let is = from_is x a.k (decode a.rec.now) s.keeps.last_lt c.base_of-base.ensures c.fed_of.ensures in
    let below = from_lt x a.k (decode a.rec.now) s.keeps.last_lt c.base_of-base.ensures c.fed_of.ensures in
    (below, base_some x below s is held, rw held s.letters, rw (held, s.long, s.keeps.held_is) (omega (arith, c.requires.0)))

pub slice_bounds-copy-end : goal.slice_bounds-copy-end
slice_bounds-copy-end c =
    let a = c.args in
    let s = standing_some a.succ.now a.k a.rec.now c.requires.2 refl c.requires.3 in
    let few = rw (← c.letters_of-held.ensures) at s.long in
    omega (arith, c.trace-upto.auto.out, few, s.keeps.held_is, c.requires.0)

pub returns : goal.returns
returns c =
    let a = c.args in
    let x = a.succ.now in
    let s = standing_some x a.k a.rec.now c.requires.2 refl c.requires.3 in
    let held = c.letters_of-held.ensures in
    let is = from_is x a.k (decode a.rec.now) s.keeps.last_lt c.base_of-base.ensures c.fed_of.ensures in
    let below = from_lt x a.k (decode a.rec.now) s.keeps.last_lt c.base_of-base.ensures c.fed_of.ensures in
    let traced = rw (held_whole x below s is held c.trace-upto.ensures.0) at (c.trace-upto.ensures.1 x.starts) in
    let few = rw (← held) at s.long in
    let count = c.min-count.result in
    let part = c.letters_of-held.result.now in
    let room : suc (length part) ≤ length c.trace-upto.new.out = omega (arith, c.trace-upto.auto.out, few, s.keeps.held_is, c.requires.0) in
    let sets = open_sets_lem (means x) a.k a.rec.now s _ is held traced count room c.min-count.ensures in
    let number = open_count (means x) a.k a.rec.now s _ is held traced count room c.min-count.ensures in
    let all : length part + 1 - (length part + 1 - count) ≡ count = omega (arith, c.min-count.ensures) in
    (sym number, rw (all, ← sets) at c.copy.ensures)
