use Rattle.std.proofs.Common.{arith, ◌≡◌, refl, ◌++◌, ◌+◌, length, drop, take, replicate, ◌-◌}
use Rattle.std.proofs.Math.ListN.{length-take, length-drop}
use borrow.Rule.Slice.PartMut.{put_mid}
use Rattle.records.proofs.Held.{begun_bytes}
use Rattle.records.proofs.start.Goals as goal

pub returns : goal.returns
returns c =
    let a = c.args in
    let b = a.rec.now in
    let width : 8 + a.k - 8 ≡ a.k = omega arith in
    let whole : length (take a.k (drop 8 b)) ≡ a.k = simp (length-take, length-drop) (omega arith) in
    let zeros = rw (width, whole) at (c.fill.ensures.after (λ y e. e)) in
    let back : put_mid 8 (8 + a.k - 8) b c.fill.new.self ≡ take 8 b ++ (replicate a.k 0 ++ drop a.k (drop 8 b)) = rw (width, zeros) refl in
    begun_bytes a.k a.last b _ _ c.requires back c.write_numbers.ensures
