use Rattle.std.proofs.Common.{arith, ◌^◌, ◌<◌}
use Rattle.bitset.proofs.Counts.{trailing_least, has_strike}
use Rattle.bitset.proofs.MembersIterator.next.Goals as goal

pub returns-clause-steps : goal.returns-clause-steps
returns-clause-steps c =
    let word : c.args.self.now.rest < 2 ^ 64 = omega arith in
    record {
      some = omega (arith, c.if-self-eq0.false);
      is = trailing_least 64 _;
      others = λ t. has_strike 64 _ t word;
    }
