-- A given literal is left out; another is forced still, or its constraint is falsified.
use Rattle.std.proofs.Common.{◌≡◌, ◌∙◌, true, false, List, Some, None, get_or, take, ap, sym, subst, arith}
use Rattle.std.proofs.lemmas.List.{get_or_default}
use Rattle.linear.specs.declared.term.Lit.{Lit}
use Rattle.normal_form.specs.Normal.{NormalConstraint}
use Rattle.propagate.specs.Literals.{lists}
use Rattle.ledger.specs.Ledgers.{IsReason, shown}
use Rattle.propagate.proofs.Positions.{listed_at}
use Rattle.watch.proofs.ToldTrail.{reason_is, told_falsified, told_given, told_one}
use Rattle.watch.proofs.telling.tell.Goals as goal

abbrev none : Lit
none = record { var = record { 0 = 0 }; negated = false }

pub has-requires : goal.has-requires
has-requires c =
    let trail = c.args.ledger.now.assigned in
    let l : Lit = get_or c.literals.result.now c.args.index none in
    let listed : lists trail l ≡ true = ap (λ (xs : List Lit). lists trail (get_or xs c.args.index none)) c.literals.ensures.assigned ∙ listed_at trail c.args.index none c.requires.index in
    omega (arith, c.literals.ensures.variables l listed, c.requires.wide)

pub returns-then-has : goal.returns-then-has
returns-then-has c =
    let trail = c.args.ledger.now.assigned in
    let l : Lit = get_or c.literals.result.now c.args.index none in
    let is : get_or trail c.args.index l ≡ l = get_or_default trail c.args.index l none c.requires.index ∙ ap (λ (xs : List Lit). get_or xs c.args.index none) (sym c.literals.ensures.assigned) in
    told_given (shown c.args.ledger.now.slots) c.args.given.now.0 trail c.args.steps.now.items c.args.index l c.requires.index is c.requires.told c.reveal-2.ensures.consistent (sym c.has.ensures ∙ c.if-has.true)

pub has-requires-2 : goal.has-requires-2
has-requires-2 c =
    let trail = c.args.ledger.now.assigned in
    let l : Lit = get_or c.literals.result.now c.args.index none in
    let listed : lists trail l ≡ true = ap (λ (xs : List Lit). lists trail (get_or xs c.args.index none)) c.literals.ensures.assigned ∙ listed_at trail c.args.index none c.requires.index in
    omega (arith, c.literals.ensures.variables l listed, c.requires.wide, ap (λ (m : Lit). m.var.0) c.opposite.ensures)

pub returns-then-has-2 : goal.returns-then-has-2
returns-then-has-2 c =
    let ns : List NormalConstraint = shown c.args.ledger.now.slots in
    let trail = c.args.ledger.now.assigned in
    let reasons = c.args.ledger.now.reasons in
    let l : Lit = get_or c.literals.result.now c.args.index none in
    let base : IsReason ns (take c.args.index trail) l (get_or reasons c.args.index None) =
    subst (λ (xs : List Lit). IsReason ns (take c.args.index trail) (get_or xs c.args.index none) (get_or reasons c.args.index None)) (sym c.literals.ensures.assigned) (c.reveal.ensures.reasons.forced c.args.index none c.requires.index) in
    let r : IsReason ns (take c.args.index trail) l (Some c.in-Some.place) = reason_is ns (take c.args.index trail) l (get_or reasons c.args.index None) (Some c.in-Some.place) base (sym c.reason.ensures ∙ c.in-Some.is) in
    told_falsified ns c.args.given.now.0 trail c.args.steps.now.items c.args.index c.in-Some.place l c.requires.told r (ap (λ (m : Lit). lists c.args.given.now.0 m) (sym c.opposite.ensures) ∙ sym c.has-2.ensures ∙ c.if-has-2.true)

pub returns : goal.returns
returns c =
    let ns : List NormalConstraint = shown c.args.ledger.now.slots in
    let trail = c.args.ledger.now.assigned in
    let reasons = c.args.ledger.now.reasons in
    let l : Lit = get_or c.literals.result.now c.args.index none in
    let is : get_or trail c.args.index l ≡ l = get_or_default trail c.args.index l none c.requires.index ∙ ap (λ (xs : List Lit). get_or xs c.args.index none) (sym c.literals.ensures.assigned) in
    let base : IsReason ns (take c.args.index trail) l (get_or reasons c.args.index None) =
    subst (λ (xs : List Lit). IsReason ns (take c.args.index trail) (get_or xs c.args.index none) (get_or reasons c.args.index None)) (sym c.literals.ensures.assigned) (c.reveal.ensures.reasons.forced c.args.index none c.requires.index) in
    let r : IsReason ns (take c.args.index trail) l (Some c.in-Some.place) = reason_is ns (take c.args.index trail) l (get_or reasons c.args.index None) (Some c.in-Some.place) base (sym c.reason.ensures ∙ c.in-Some.is) in
    rw c.in_ok-push.ensures.items (told_one ns c.args.given.now.0 trail c.args.steps.now.items c.args.index c.in-Some.place l c.requires.index is c.requires.told r
    (sym c.has.ensures ∙ c.if-has.false) (ap (λ (m : Lit). lists c.args.given.now.0 m) (sym c.opposite.ensures) ∙ sym c.has-2.ensures ∙ c.if-has-2.false))
