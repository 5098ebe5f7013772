use Rattle.std.proofs.Common.{◌≡◌, pos, [], ◌∷◌, Some, None, refl, subst, arith}
use Rattle.std.proofs.lemmas.Int.{ints}
use Rattle.normal_form.specs.NormalOf.{IsNormalOf}
use Rattle.normal_form.proofs.NormalForm.{is_form}
use Rattle.propagate.specs.Cases.{not_x}
use Rattle.proof_rules.specs.Cases.{cover_state, least_cover, min_both, second_alone, below_one}
use Rattle.proof_rules.specs.Fault.{IsNotBetter}
use Rattle.proof_rules.specs.Legal.{Logs}
use Rattle.proof_rules.specs.Solution.{at_most}
use Rattle.proof_rules.proofs.SmallStates.{second_satisfies, second_completes}
use Rattle.proof_rules.proofs.SolJudged.{one_log}
use Rattle.proof_rules.proofs.solution_cases.improving_solution.Goals as goal

form : IsNormalOf (at_most min_both (pos 0)) below_one
form = is_form (at_most min_both (pos 0)) below_one (omega arith, omega arith, (omega arith, omega arith, tt)) (λ set. omega (arith, ints)) refl

pub returns-clause-improves : goal.returns-clause-improves
returns-clause-improves c = (
  min_both,
  second_alone,
  below_one,
  record {
    minimises = refl;
    logs = record { completes = second_completes; satisfies = second_satisfies };
    better = omega (arith, ints);
    form = form;
    room = omega arith;
  },
  refl,
)

logs : Logs least_cover (cover_state (Some (pos 1)) (second_alone ∷ [])) (not_x 0 ∷ []) second_alone
logs = record { completes = second_completes; satisfies = second_satisfies }

pub returns-clause-equal : goal.returns-clause-equal
returns-clause-equal c = (
  λ none. let same : Some min_both ≡ None = none in absurd (cc),
  (second_alone, logs),
  λ g also.
      subst (IsNotBetter least_cover (cover_state (Some (pos 1)) (second_alone ∷ [])))
      (one_log least_cover (cover_state (Some (pos 1)) (second_alone ∷ [])) (not_x 0 ∷ []) second_alone g logs also)
      (pos 1, refl, omega (arith, ints)),
)
