-- More literals are assigned, with the cube beside the constraints.
use Rattle.std.proofs.Common.{◌≡◌, ◌∷◌, []}
use Rattle.watch.specs.Cubes.{IsGivenBy}
use Rattle.watch.proofs.cubes.give_short_ones.Given as goal

abbrev pub invariant-loop-index : goal.invariant-loop-index
invariant-loop-index l = record {
  variables : l.ledger.variables ≡ l.initial.ledger.variables;
  given : IsGivenBy (l.cube ∷ []) l.initial.ledger l.ledger;
}
