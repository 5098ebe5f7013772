-- The literals of the cubes so far are assigned.
use Rattle.std.proofs.Common.{All, take}
use Rattle.watch.specs.Cubes.{IsAllAssigned, IsGivenBy}
use Rattle.watch.proofs.cubes.give_cubes.Given as goal

abbrev pub invariant-loop-cube : goal.invariant-loop-cube
invariant-loop-cube l = record {
  given : IsGivenBy l.cubes l.initial.ledger l.ledger;
  each : All (IsAllAssigned l.ledger.assigned) (take l.cube-index l.cubes);
}
