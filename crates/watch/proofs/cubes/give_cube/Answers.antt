-- One literal more is assigned, and at the end all are.
use Rattle.std.proofs.Common.{◌∷◌, [], ◌∙◌, subst, arith}
use Rattle.watch.specs.Cubes.{IsTermEnd}
use Rattle.watch.proofs.GivenCubes.{all_assigned, each_more, given_then}
use Rattle.watch.proofs.cubes.give_cube.Goals as goal

pub returns-then-give_term-clause-given : goal.returns-then-give_term-clause-given
returns-then-give_term-clause-given c =
    let cubes = c.args.cube.now ∷ [] in
    given_then cubes c.args.ledger.now c.loop-index.ledger c.give_term.new.ledger
    (given_then cubes c.args.ledger.now c.give_short_ones.new.ledger c.loop-index.ledger c.give_short_ones.ensures.given c.loop-index.invariant.given) c.give_term.ensures.given

pub loop-index-preserved : goal.loop-index-preserved
loop-index-preserved c =
    let i = c.loop-index.invariant in
    let g = c.give_term.ensures in
    let cube = c.args.cube.now in
    let end = subst (IsTermEnd c.give_term.new.ledger.assigned cube c.loop-index.index) c.if-give_term.false g.end in
    record {
      variables = g.variables ∙ i.variables;
      given = given_then (cube ∷ []) c.give_short_ones.new.ledger c.loop-index.ledger c.give_term.new.ledger i.given g.given;
      each = each_more cube c.loop-index.index c.loop-index.ledger c.give_term.new.ledger g.given i.each end;
    }

pub returns-clause-end : goal.returns-clause-end
returns-clause-end c = all_assigned c.loop-index.ledger.assigned c.args.cube.now (λ k d low. c.loop-index.invariant.each k d (omega (arith, low, c.loop-index-test.false, c.len-index-end.ensures.value)))

pub returns-clause-given : goal.returns-clause-given
returns-clause-given c = given_then (c.args.cube.now ∷ []) c.args.ledger.now c.give_short_ones.new.ledger c.loop-index.ledger c.give_short_ones.ensures.given c.loop-index.invariant.given
