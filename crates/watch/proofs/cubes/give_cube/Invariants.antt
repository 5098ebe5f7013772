-- The literals of the terms so far are assigned.
use Rattle.std.proofs.Common.{◌≡◌, ◌<◌, ◌∷◌, [], ℕ, true, get_or}
use Rattle.normal_form.specs.declared.term.NormalTerm.{NormalTerm}
use Rattle.propagate.specs.Literals.{lists}
use Rattle.propagate.specs.Passes.{literal_of}
use Rattle.watch.specs.Cubes.{IsGivenBy}
use Rattle.watch.proofs.cubes.give_cube.Given as goal

abbrev pub invariant-loop-index : goal.invariant-loop-index
invariant-loop-index l = record {
  variables : l.ledger.variables ≡ l.initial.ledger.variables;
  given : IsGivenBy (l.cube ∷ []) l.initial.ledger l.ledger;
  each : (k : ℕ) (d : NormalTerm) → k < l.index → lists l.ledger.assigned (literal_of (get_or l.cube.terms k d)) ≡ true;
}
