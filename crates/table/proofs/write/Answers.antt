use Rattle.table.proofs.Form.{written}
use Rattle.table.proofs.write.Goals as goal

pub returns : goal.returns
returns c = let s = c.args.succ.now in written s.n s.m c.args.k s.starts s.sets.now s.fit s.starts_fit c.args.table.now c.requires c.copy_from_slice.ensures.after
