-- Those other than 65,534 are counted.
use Rattle.std.proofs.Common.{◌≡◌, not, eqb, count_by, rules, ◌∙◌}
use Rattle.std.proofs.lemmas.List.Sums.{count_by-le-length}
use Rattle.semiautomata.specs.Sizes.{unmeasured}
use Rattle.pages.proofs.Rows.{size_list}
use Rattle.pages.proofs.count_lines.Goals as goal

pub returns : goal.returns
returns c =
    let e : c.count.result ≡ count_by (λ v. not (eqb v unmeasured)) c.args.needs.now = search rules in
    let few = count_by-le-length (λ v. not (eqb v unmeasured)) c.args.needs.now in
    (e ∙ size_list _ c.args.needs.now, rw e few)
