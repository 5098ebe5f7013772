-- Nothing is behind the last one.
use Rattle.std.proofs.Common.{ap, sym, ◌∙◌}
use Rattle.ledger.specs.Ledgers.{State}
use Rattle.trail.proofs.AssignedLiterals.{none_when, whole_when}
use Rattle.ledger.proofs.ledger.Ledger.is_propagated.Goals as goal

pub returns : goal.returns
returns c =
    let e = c.self.inside in
    let propagated = ap (λ (s : State). s.propagated) c.self.view_is in
    let assigned = ap (λ (s : State). s.assigned) c.self.view_is in
    (λ yes. sym propagated ∙ whole_when e.trail (c.is_propagated.ensures.0 yes) ∙ assigned, λ same. c.is_propagated.ensures.1 (none_when e.trail (propagated ∙ same ∙ sym assigned)))
