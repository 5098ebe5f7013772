-- What the place forces was propagated, and it is quiet then.
use Rattle.std.proofs.Common.{◌≡◌, ◌∷◌, ℕ, List, Bool, Option, None, Some, ap, sym, subst, ◌∙◌}
use Rattle.linear.specs.declared.term.Lit.{Lit}
use Rattle.normal_form.specs.Normal.{NormalConstraint}
use Rattle.propagate.specs.Walk.{IsFalsifiedAt, IsQuiet}
use Rattle.ledger.specs.Ledgers.{State, constraint_at, shown}
use Rattle.watch.specs.Looking.{AreLookedAt, IsForcedOut, IsPropagationEnd, IsVisited}
use Rattle.watch.proofs.Propagating.{if_ok, looked_beside, visited}
use Rattle.watch.proofs.walk.visit.Goals as goal

looked : (c : goal.After-propagate) → AreLookedAt (shown c.args.ledger.now.slots) c.propagate.new.ledger.propagated (c.args.place ∷ c.propagate.new.queue.0)
looked c =
    let ns : List NormalConstraint = shown c.args.ledger.now.slots in
    let f = c.force.ensures in
    looked_beside ns c.force.new.ledger c.propagate.new.ledger c.args.place c.args.queue.now.0 c.propagate.new.queue.0 (ap shown f.goes_on.slots) c.propagate.ensures.on
    (subst (λ (xs : List Lit). AreLookedAt ns xs (c.args.place ∷ c.args.queue.now.0)) (sym f.propagated) c.requires.looked_at)

pub returns-clause-waits : goal.returns-clause-waits
returns-clause-waits c = looked c

ended : (ns : List NormalConstraint) (s : State) (place : ℕ) (q : List ℕ) (falsified : Option ℕ) → shown s.slots ≡ ns → AreLookedAt ns s.propagated (place ∷ q) → IsQuiet s.assigned (constraint_at ns place) → IsPropagationEnd s falsified → IsVisited ns s q falsified
ended ns s place q None e all quiet end = (end, visited ns s.propagated place q all (subst (λ (xs : List Lit). IsQuiet xs (constraint_at ns place)) (sym end) quiet))
ended ns s place q (Some k) e all quiet end = subst (λ (ms : List NormalConstraint). IsFalsifiedAt ms s.assigned k) e end

pub returns-clause-end : goal.returns-clause-end
returns-clause-end c =
    let ns : List NormalConstraint = shown c.args.ledger.now.slots in
    let new = c.propagate.new.ledger in
    let same = c.propagate.ensures.on.same in
    let slots : shown new.slots ≡ ns = ap (λ (s : State). shown s.slots) same ∙ ap shown c.force.ensures.goes_on.slots in
    let out : IsQuiet c.force.new.ledger.assigned (constraint_at ns c.args.place) = subst (λ (b : Bool). IsForcedOut ns c.force.new.ledger.assigned c.args.place b) c.if-force.false c.force.ensures.end in
    let quiet : IsQuiet new.assigned (constraint_at ns c.args.place) = subst (λ (xs : List Lit). IsQuiet xs (constraint_at ns c.args.place)) (sym (ap (λ (s : State). s.assigned) same)) out in
    if_ok (IsPropagationEnd new) (IsVisited ns new c.propagate.new.queue.0) c.propagate.result (λ falsified. ended ns new c.args.place c.propagate.new.queue.0 falsified slots (looked c) quiet) c.propagate.ensures.end
