-- What was told, and what is at the end of it.
use Rattle.std.proofs.Common.{List, Option, arith, subst, sym}
use Rattle.normal_form.specs.Normal.{NormalConstraint}
use Rattle.ledger.specs.Ledgers.{shown}
use Rattle.watch.specs.Steps.{IsToldTo}
use Rattle.watch.proofs.Assuming.{told_end}
use Rattle.watch.proofs.ToldTrail.{HasEnd, found}
use Rattle.watch.proofs.tracing.chain_over.Goals as goal

pub tell_all-requires-clause-wide : goal.tell_all-requires-clause-wide
tell_all-requires-clause-wide c = omega (arith, c.in_ok-marks.ensures.count, c.variable_count.ensures)

pub returns-clause-value : goal.returns-clause-value
returns-clause-value c =
    let old = c.args.ledger.now in
    let new = c.follow.new.ledger in
    let given = c.args.given.now in
    let marks = c.in_ok-marks.marks in
    let f = c.in_ok-assumed.ensures in
    let a = c.in_ok-assumed.assumed in
    let end = told_end (shown old.slots) given new.assigned a f.end in
    let told = subst (λ (os : List (Option NormalConstraint)). IsToldTo (shown os) marks.0 new.assigned c.in_ok-tell_all.field-0) f.slots c.in_ok-tell_all.ensures in
    found (shown old.slots) marks.0 given new.assigned c.in_ok-tell_all.field-0 c.with_end.result c.falsified_place.result c.in_ok-marks.ensures.same told c.with_end.ensures.steps c.with_end.ensures.falsified
    (subst (HasEnd (shown old.slots) given new.assigned) (sym c.falsified_place.ensures) end)
