-- What waits behind it still waits.
use Rattle.std.proofs.Common.{Contains, ℕ, List, Option, Some, ap, subst, sym, ◌∙◌}
use Rattle.ledger.specs.Waiting.{with_first}
use Rattle.ledger.proofs.QueueChanges.{waits_behind}
use Rattle.ledger.proofs.queue.Queue.add_first.Goals as goal

pub returns-in-None-clause-kept : goal.returns-in-None-clause-kept
returns-in-None-clause-kept c k h =
    let q = c.self.inside in
    let there : Contains q.places.items k = subst (λ (xs : List ℕ). Contains xs k) (sym (ap (λ (p : List ℕ × ℕ). p.0) c.self.view_is) ∙ ap (λ (o : Option ℕ). with_first o q.places.items) c.in-None.is) h in
    waits_behind (Some c.args.place) q.places.items k there
