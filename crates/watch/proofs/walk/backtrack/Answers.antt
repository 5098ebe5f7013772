-- What was propagated is no longer than the literals that are left.
use Rattle.std.proofs.Common.{◌≤◌, List, length, length-append, ap, sym, ◌∙◌, arith}
use Rattle.linear.specs.declared.term.Lit.{Lit}
use Rattle.trail.proofs.AssignedLiterals.{take_long}
use Rattle.watch.proofs.walk.backtrack.Goals as goal

pub returns-clause-propagated : goal.returns-clause-propagated
returns-clause-propagated c =
    let p : List Lit = c.loop-ledger.ledger.propagated in
    let behind = c.reveal.ensures.propagated in
    let short : length p ≤ c.args.count = omega (arith, ap (length {A = Lit}) behind.1, length-append p behind.0, c.len.ensures.value, c.loop-ledger-test.false) in
    sym (take_long c.args.count p short) ∙ c.loop-ledger.invariant.first_propagated
