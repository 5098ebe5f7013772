use Rattle.std.proofs.Common.{[], ◌∷◌, ◌++◌, ap, ◌∙◌}
use Rattle.solutions.specs.Logged.{with_logged}
use Rattle.solutions.proofs.log.SolutionLog.push.Goals as goal

pub returns-clause-ok : goal.returns-clause-ok
returns-clause-ok c =
    let l = c.self.inside in
    ap (λ xs. record { logged = xs; least = l.least }) (c.in_ok-push.ensures.items ∙ ap (λ s. l.solutions.items ++ s ∷ []) c.in_ok-packed.ensures)
    ∙ ap (with_logged c.args.solution.now) c.self.view_is
