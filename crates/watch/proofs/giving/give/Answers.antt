-- The literal is free, and is listed.
use Rattle.std.proofs.Common.{◌∙◌, ap, ◌∷◌, []}
use Rattle.propagate.specs.Literals.{lists}
use Rattle.propagate.proofs.Assignments.{among_head, among_right}
use Rattle.ledger.specs.Ledgers.{State}
use Rattle.watch.proofs.giving.give.Goals as goal

pub returns-clause-there : goal.returns-clause-there
returns-clause-there c =
    let l = c.args.literal in
    ap (λ (s : State). lists s.assigned l) c.assign.ensures ∙ among_right c.args.ledger.now.assigned (l ∷ []) (l.var.0) l.negated (among_head l [])
