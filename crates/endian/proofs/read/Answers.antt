use Rattle.std.proofs.Common.{arith, ◌≡◌, ◌+◌, ◌-◌}
use Rattle.endian.specs.Numbers.{number_at}
use Rattle.endian.proofs.Numbers.{number_eight, number_below}
use Rattle.endian.proofs.read.Goals as goal

pub returns : goal.returns
returns g c =
    let a = c.args in
    let width : a.at + g.row.W - a.at ≡ g.row.W = omega arith in
    let whole = number_eight a.bytes.now a.at g.row.W c.requires.0 c.requires.1 (rw width at c.copy_from_slice.ensures.after) in
    let is : c.from_le_bytes.result ≡ number_at a.bytes.now a.at g.row.W = omega (arith, whole) in
    (is, rw is (number_below a.bytes.now a.at g.row.W (λ i. omega (arith, c.type_inv.bytes i))))
