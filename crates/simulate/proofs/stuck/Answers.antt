use Rattle.std.proofs.Common.{arith, rules, tests, ◌≡◌, ℕ, Bool, true, false, refl}
use Rattle.std.proofs.lemmas.Iterator.{cases_from_all, YieldsList-from_range}
use Rattle.bitset.specs.Sets.{any}
use Rattle.bitset.specs.Numbers.{has}
use Rattle.semiautomata.specs.Walks.{step}
use Rattle.semiautomata.specs.Successors.{successors}
use Rattle.walks.proofs.Words.{some_of, none_of}
use Rattle.simulate.proofs.Endings.{none_leads}
use Rattle.simulate.proofs.stuck.Goals as goal

pub returns : goal.returns
returns c = λ starts.
    let x = c.args.succ.now in
    let leads : ℕ → Bool = λ a. any x.n (step (successors x.n x.m starts x.sets.now) (has c.args.set) a) in
    none_leads x.m leads _
    (cases_from_all _ _ _ (λ a. leads a ≡ false) (λ a. leads a ≡ true) c.all.ensures.ran (YieldsList-from_range 0 x.m x.m refl (omega arith))
    (λ a q k. search (rules, tests, none_of)) (λ a q k. search (rules, tests, some_of)))
