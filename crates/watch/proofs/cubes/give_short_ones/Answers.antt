-- What was given before comes first.
use Rattle.std.proofs.Common.{◌∷◌, [], ◌∙◌}
use Rattle.watch.proofs.GivenCubes.{given_then}
use Rattle.watch.proofs.cubes.give_short_ones.Goals as goal

pub returns-then-give_short-clause-given : goal.returns-then-give_short-clause-given
returns-then-give_short-clause-given c = given_then (c.args.cube.now ∷ []) c.args.ledger.now c.loop-index.ledger c.give_short.new.ledger c.loop-index.invariant.given c.give_short.ensures.given

pub loop-index-preserved : goal.loop-index-preserved
loop-index-preserved c = record {
  variables = c.give_short.ensures.variables ∙ c.loop-index.invariant.variables;
  given = given_then (c.args.cube.now ∷ []) c.args.ledger.now c.loop-index.ledger c.give_short.new.ledger c.loop-index.invariant.given c.give_short.ensures.given;
}
