use Rattle.std.proofs.Common.{inr, true, false, [], ◌∷◌, refl}
use Rattle.propagate.specs.Cases.{x, not_x}
use Rattle.proof_rules.specs.Cases.{second_alone, derived_state}
use Rattle.proof_rules.specs.State.{constraints}
use Rattle.proof_rules.proofs.SmallStates.{one_consistent, two_consistent, both_named, second_unnamed, second_satisfies, derived_conflict}
use Rattle.proof_rules.proofs.solution_cases.solution_judged_by_the_file.Goals as goal

pub returns-clause-named : goal.returns-clause-named
returns-clause-named c = (
  second_alone,
  record {
    completes = both_named (constraints derived_state) (not_x 0 ∷ x 1 ∷ []) false true (two_consistent (not_x 0) (x 1) refl) refl refl;
    satisfies = second_satisfies;
  },
  refl,
)

pub returns-clause-completed : goal.returns-clause-completed
returns-clause-completed c = inr (one_consistent (not_x 0), second_unnamed (not_x 0 ∷ []) (λ b. refl), derived_conflict)
