use Rattle.std.proofs.Common.{inl, true, false, [], ◌∷◌, refl, sym, subst, arith}
use Rattle.propagate.specs.Cases.{x, not_x}
use Rattle.propagate.proofs.Consistency.{push_consistent}
use Rattle.proof_rules.specs.Cases.{cover, both, second_alone, cover_start}
use Rattle.proof_rules.specs.Solution.{Completes}
use Rattle.proof_rules.specs.State.{constraints}
use Rattle.proof_rules.proofs.SmallStates.{live_of, two_consistent, both_named, both_reached, second_unnamed, both_satisfies, second_satisfies, leaves_open}
use Rattle.proof_rules.proofs.solution_cases.variable_beyond_the_file.Goals as goal

pub returns-clause-named : goal.returns-clause-named
returns-clause-named c = (
  both,
  record {
    completes = both_named (constraints cover_start) (x 0 ∷ x 1 ∷ x 5 ∷ []) true true (push_consistent (x 0 ∷ x 1 ∷ []) (x 5) (two_consistent (x 0) (x 1) refl) refl) refl refl;
    satisfies = both_satisfies;
  },
  refl,
)

pub returns-clause-completed : goal.returns-clause-completed
returns-clause-completed c = (
  second_alone,
  record {
    completes = subst (λ live. Completes live 2 (not_x 0 ∷ x 5 ∷ []) second_alone) (sym (live_of (cover ∷ [])))
        (both_reached 4 (cover ∷ []) (not_x 0 ∷ x 5 ∷ []) (not_x 0 ∷ x 5 ∷ x 1 ∷ []) false true
        (two_consistent (not_x 0) (x 5) refl) (second_unnamed (not_x 0 ∷ x 5 ∷ []) (λ b. refl)) refl refl refl);
    satisfies = second_satisfies;
  },
  refl,
)

pub returns-clause-contradictory : goal.returns-clause-contradictory
returns-clause-contradictory c = inl (λ consistent. consistent (x 5, refl, refl))

pub returns-clause-open : goal.returns-clause-open
returns-clause-open c =
    leaves_open 4 (constraints cover_start) (cover ∷ []) (x 0 ∷ x 5 ∷ []) (x 0 ∷ x 5 ∷ []) 2 1 (live_of (cover ∷ [])) (two_consistent (x 0) (x 5) refl) refl (omega arith) (λ b. refl)
