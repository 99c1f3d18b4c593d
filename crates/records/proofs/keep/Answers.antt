use Rattle.std.proofs.Common.{arith, ◌∙◌, ap, length, ◌-◌}
use Rattle.streaming.specs.PlainWalk.{limit}
use Rattle.records.specs.Taking.{pushed}
use Rattle.std.proofs.Math.ListN.{length-take, length-drop}
use Rattle.std.proofs.Common.{add-one, suc}
use Rattle.slices.proofs.Parts.{part_back}
use Rattle.records.proofs.Bytes.{tidy_out}
use Rattle.records.proofs.Held.{taken_bytes}
use Rattle.records.proofs.keep.Goals as goal

pub push-requires : goal.push-requires
push-requires c =
    let tidied = tidy_out _ _ c.requires.1 in
    (omega (arith, tidied.count, c.held_of-held.ensures), simp (length-take, length-drop) (omega (arith, c.requires.0)))

pub overflow_cast-fed : goal.overflow_cast-fed
unfolding limit
overflow_cast-fed c = omega (arith, c.fed_of-fed.ensures, c.requires.2)

pub returns : goal.returns
returns c =
    let a = c.args in
    let b = a.rec.now in
    let back = part_back 8 (length b - 8) b _ (λ l. pushed a.k c.held_of-held.result l a.letter) (omega arith) c.push.ensures in
    taken_bytes a.k b c.requires.0 (tidy_out _ _ c.requires.1) c.held_of-held.result _ a.last a.letter _ _ _ c.held_of-held.ensures
    (add-one c.fed_of-fed.result ∙ ap suc c.fed_of-fed.ensures) c.min.ensures back c.write_numbers.ensures
