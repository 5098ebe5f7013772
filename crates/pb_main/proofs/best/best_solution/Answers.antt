use Rattle.std.proofs.Common.{ap, ◌∙◌}
use Rattle.pb_main.specs.Solution.{NamedValues}
use Rattle.pb_main.proofs.BestSolutions.{handed_out}
use Rattle.pb_main.proofs.best.best_solution.Goals as goal

pub returns : goal.returns
returns g c =
    let made = c.new.ensures in
    let best = c.in_ok-values.ensures in
    let names = ap (λ (s : NamedValues). s.names) made ∙ c.in_ok-names.ensures ∙ c.names.ensures in
    let values = ap (λ (s : NamedValues). s.values) made in
    let improved = ap (λ (s : NamedValues). s.improved) made ∙ c.in_ok-improved.ensures.items ∙ c.improved.ensures.improved in
    handed_out c.args.log.now c.in_ok-values.values c.new.result c.improved.ensures.proof best.best best.solution best.least names values improved
