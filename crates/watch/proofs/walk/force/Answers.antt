-- The last open literal of a clause is forced, and the clause is quiet.
use Rattle.std.proofs.Common.{◌<◌, List, ap, sym, subst, length, arith}
use Rattle.std.proofs.lemmas.List.{length-map}
use Rattle.linear.specs.declared.term.Lit.{Lit}
use Rattle.propagate.specs.Slack.{IsForced}
use Rattle.normal_form.specs.Normal.{NormalConstraint}
use Rattle.ledger.specs.Ledgers.{State, constraint_at, constraint_in, shown}
use Rattle.watch.specs.Looking.{IsContinued}
use Rattle.watch.proofs.Walking.{goes_by_one, goes_on_by_one}
use Rattle.watch.proofs.walk.force.Goals as goal

pub returns-in-Forces-clause-goes_on : goal.returns-in-Forces-clause-goes_on
returns-in-Forces-clause-goes_on c =
    let old = c.args.ledger.now in
    let ns : List NormalConstraint = shown old.slots in
    let l : Lit = c.in-Forces.literal in
    let low : c.args.place < length ns = omega (arith, c.requires.place, length-map old.slots constraint_in) in
    let forced = subst (λ (xs : List Lit). IsForced xs l (constraint_at ns c.args.place)) c.requires.propagated c.in-Forces.ensures.value.0 in
    goes_by_one old c.assign.new.self c.args.place (ap (λ (s : State). s.slots) c.assign.ensures) (ap (λ (s : State). s.variables) c.assign.ensures)
    (subst (IsContinued ns old.assigned) (sym (ap (λ (s : State). s.assigned) c.assign.ensures)) (goes_on_by_one ns old.assigned l c.args.place low forced)) (ap (λ (s : State). s.reasons) c.assign.ensures)
