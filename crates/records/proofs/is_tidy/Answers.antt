use Rattle.std.proofs.Common.{tests, rules, arith, ◌≡◌, ◌+◌, ◌-◌}
use Rattle.records.specs.Bytes.{tidy}
use Rattle.std.proofs.lemmas.Bool.Decides.{nat_tests}
use Rattle.std.proofs.lemmas.Iterator.{cases_from_all, YieldsList-from_slice}
use Rattle.records.proofs.Bytes.{tidy_is, zeros_told}
use Rattle.records.proofs.is_tidy.Goals as goal

pub returns-then-k-held : goal.returns-then-k-held
unfolding tidy
returns-then-k-held c = grind (arith, nat_tests, c.held_of-held.ensures)

pub returns-then-rec-eq0 : goal.returns-then-rec-eq0
returns-then-rec-eq0 c =
    let told = cases_from_all _ _ _ (λ x. x ≡ 0) (λ x. ¬ (x ≡ 0)) c.all.ensures.ran (YieldsList-from_slice _ c.iter.ensures.rest) (λ x q k. search (rules, tests)) (λ x q k. search (rules, tests)) in
    let zeros = zeros_told c.args.rec.now (8 + c.held_of-held.result) (c.args.k - c.held_of-held.result) _ _ (omega arith) (omega (arith, c.requires)) told in
    tidy_is _ _ c.if-rec-eq0.true c.held_of-held.ensures c.if-k-held.false zeros

pub returns-else-rec-eq0 : goal.returns-else-rec-eq0
unfolding tidy
returns-else-rec-eq0 c = grind (arith, nat_tests)
