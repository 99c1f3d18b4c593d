use Rattle.std.proofs.Common.{arith, ◌∙◌, ◌≡◌, ◌+◌, ◌-◌}
use Rattle.endian.specs.Numbers.{bytes_of}
use Rattle.endian.proofs.Numbers.{bytes_four, bytes_length}
use Rattle.slices.proofs.Parts.{part_pasted}
use Rattle.endian.proofs.write.Goals as goal

pub returns : goal.returns
returns g c =
    let a = c.args in
    let w = g.row.W in
    let width : a.at + w - a.at ≡ w = omega arith in
    let part : c.copy_from_slice.new.self ≡ bytes_of w a.x = c.copy_from_slice.ensures.after ∙ rw c.to_le_bytes.ensures (bytes_four w a.x c.requires.0) in
    rw (part, width) (part_pasted a.at w a.bytes.now (bytes_of w a.x) (bytes_length w a.x))
