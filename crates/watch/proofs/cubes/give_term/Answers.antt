-- A cube forces each literal that is free, and is falsified by the opposite of any.
use Rattle.std.proofs.Common.{ap, arith}
use Rattle.linear.specs.declared.term.Lit.{Lit}
use Rattle.ledger.specs.Ledgers.{State}
use Rattle.watch.proofs.GivenCubes.{given_literal, literal_assigned, not_free, variable_below}
use Rattle.watch.proofs.cubes.give_term.Goals as goal

pub leaves_free-requires : goal.leaves_free-requires
leaves_free-requires c = rw c.literal-literal.ensures (variable_below c.args.cube.now c.args.index c.args.ledger.now.variables c.term.result c.requires.index c.term.ensures.value c.requires.variables)

pub assign-requires-clause-variable : goal.assign-requires-clause-variable
assign-requires-clause-variable c = rw c.literal-literal.ensures (variable_below c.args.cube.now c.args.index c.args.ledger.now.variables c.term.result c.requires.index c.term.ensures.value c.requires.variables)

pub returns-then-leaves_free-clause-given : goal.returns-then-leaves_free-clause-given
returns-then-leaves_free-clause-given c =
    let free = c.leaves_free.ensures.0 c.if-leaves_free.true in
    given_literal c.args.cube.now c.args.index c.term.result c.literal-literal.result c.args.ledger.now c.assign.new.self c.requires.cube c.requires.index c.term.ensures.value c.literal-literal.ensures free.0 free.1 c.assign.ensures

pub returns-then-leaves_free-clause-end : goal.returns-then-leaves_free-clause-end
returns-then-leaves_free-clause-end c = literal_assigned c.args.cube.now c.args.index c.term.result c.literal-literal.result c.args.ledger.now c.assign.new.self c.requires.index c.term.ensures.value c.literal-literal.ensures (ap (λ (s : State). s.assigned) c.assign.ensures)

pub assigns-requires : goal.assigns-requires
assigns-requires c =
    let below = variable_below c.args.cube.now c.args.index c.args.ledger.now.variables c.term.result c.requires.index c.term.ensures.value c.requires.variables in
    omega (arith, below, ap (λ (l : Lit). l.var.0) c.opposite.ensures, ap (λ (l : Lit). l.var.0) c.literal-literal.ensures)

pub returns-clause-end : goal.returns-clause-end
returns-clause-end c =
    not_free c.args.cube.now c.args.index c.term.result c.literal-literal.result c.opposite.result c.args.ledger.now.assigned c.leaves_free.result c.assigns.result c.requires.cube c.requires.index c.term.ensures.value c.literal-literal.ensures c.opposite.ensures c.if-leaves_free.false c.leaves_free.ensures c.assigns.ensures
