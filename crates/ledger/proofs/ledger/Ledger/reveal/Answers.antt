-- What is still to be propagated stands behind.
use Rattle.std.proofs.Common.{◌++◌, ap, sym, ◌∙◌}
use Rattle.ledger.specs.Ledgers.{State}
use Rattle.ledger.proofs.ledger.Ledger.reveal.Goals as goal

pub returns-clause-propagated : goal.returns-clause-propagated
returns-clause-propagated c =
    let e = c.self.inside in
    (e.trail.2, sym (ap (λ (s : State). s.assigned) c.self.view_is) ∙ ap (λ (s : State). s.propagated ++ e.trail.2) c.self.view_is)
