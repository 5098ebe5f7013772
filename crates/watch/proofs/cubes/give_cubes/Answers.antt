-- One cube more is given, and at the end all are.
use Rattle.std.proofs.Common.{sym}
use Rattle.std.proofs.lemmas.List.{take_all}
use Rattle.std.proofs.lemmas.List.Elements.{All-same}
use Rattle.watch.specs.Cubes.{IsAllAssigned}
use Rattle.watch.proofs.GivenCubes.{all_of_cube, cubes_more, falsified_among, given_among}
use Rattle.watch.proofs.cubes.give_cubes.Goals as goal

pub returns-then-give_cube-clause-given : goal.returns-then-give_cube-clause-given
returns-then-give_cube-clause-given c =
    let w = c.widen.ensures in
    given_among c.args.cubes.now c.loop-cube.cube-index c.cube-item.result c.args.ledger.now c.loop-cube.ledger c.widen.new.self c.give_cube.new.ledger c.loop-cube-test.true c.cube-item.is w.slots w.assigned w.propagated w.reasons c.loop-cube.invariant.given c.give_cube.ensures.given

pub returns-then-give_cube-clause-end : goal.returns-then-give_cube-clause-end
returns-then-give_cube-clause-end c =
    falsified_among c.args.cubes.now c.loop-cube.cube-index c.cube-item.result c.give_cube.new.ledger.assigned c.give_cube.result c.loop-cube-test.true c.cube-item.is c.if-give_cube.true c.give_cube.ensures.end

pub loop-cube-preserved : goal.loop-cube-preserved
loop-cube-preserved c =
    let w = c.widen.ensures in
    let g = c.give_cube.ensures in
    let here = all_of_cube c.cube-item.result c.give_cube.new.ledger.assigned c.give_cube.result c.if-give_cube.false g.end in
    record {
      given = given_among c.args.cubes.now c.loop-cube.cube-index c.cube-item.result c.args.ledger.now c.loop-cube.ledger c.widen.new.self c.give_cube.new.ledger c.loop-cube-test.true c.cube-item.is w.slots w.assigned w.propagated w.reasons c.loop-cube.invariant.given g.given;
      each = cubes_more c.args.cubes.now c.loop-cube.cube-index c.cube-item.result c.loop-cube.ledger c.widen.new.self c.give_cube.new.ledger c.loop-cube-test.true c.cube-item.is w.assigned g.given c.loop-cube.invariant.each here;
    }

pub returns-clause-end : goal.returns-clause-end
returns-clause-end c = All-same (IsAllAssigned c.loop-cube.ledger.assigned) c.args.cubes.now _ (sym (take_all c.loop-cube.cube-index c.args.cubes.now c.loop-cube-test.false)) c.loop-cube.invariant.each
