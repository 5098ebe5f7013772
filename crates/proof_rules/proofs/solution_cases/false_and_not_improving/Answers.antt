use Rattle.std.proofs.Common.{◌≡◌, ◌≢◌, pos, neg_ℤ, true, false, [], ◌∷◌, Some, None, refl, subst, arith}
use Rattle.std.proofs.lemmas.Int.{ints}
use Rattle.std.proofs.lemmas.List.Elements.{All-nil, All-cons}
use Rattle.linear.specs.Sum.{Meets}
use Rattle.linear.specs.Valuation.{valuation_of}
use Rattle.propagate.specs.Cases.{x, not_x}
use Rattle.proof_rules.specs.Cases.{greatest_cover, cover_written, first_alone, second_alone, cover_state}
use Rattle.proof_rules.specs.Fault.{IsSoliFault, IsNotBetter}
use Rattle.proof_rules.specs.Legal.{Logs}
use Rattle.proof_rules.specs.State.{State, constraints}
use Rattle.proof_rules.specs.declared.fault.StepFault.TheVariants.{SolutionFalse, NotImproving}
use Rattle.proof_rules.proofs.OneStepFault.{one_soli_fault}
use Rattle.proof_rules.proofs.SmallStates.{two_consistent, both_named, neither_breaks}
use Rattle.proof_rules.proofs.SolJudged.{one_log}
use Rattle.proof_rules.proofs.solution_cases.false_and_not_improving.Goals as goal

abbrev solved : State
solved = cover_state (Some (neg_ℤ (pos 1))) (second_alone ∷ [])

maximises : greatest_cover.objective ≢ None
maximises none = absurd (cc)

breaks : IsSoliFault greatest_cover solved (not_x 0 ∷ not_x 1 ∷ []) SolutionFalse
breaks = (maximises, neither_breaks)

pub returns-clause-breaks : goal.returns-clause-breaks
returns-clause-breaks c = breaks

pub returns-clause-breaks_alone : goal.returns-clause-breaks_alone
returns-clause-breaks_alone c h =
    let same : SolutionFalse ≡ NotImproving = one_soli_fault greatest_cover solved (not_x 0 ∷ not_x 1 ∷ []) SolutionFalse NotImproving breaks h in
    absurd (cc)

logs : Logs greatest_cover solved (x 0 ∷ not_x 1 ∷ []) first_alone
logs = record {
  completes = both_named (constraints solved) (x 0 ∷ not_x 1 ∷ []) true false (two_consistent (x 0) (not_x 1) refl) refl refl;
  satisfies = All-cons (Meets (valuation_of first_alone)) cover_written [] (omega (arith, ints)) (All-nil (Meets (valuation_of first_alone)));
}

equal_value : IsSoliFault greatest_cover solved (x 0 ∷ not_x 1 ∷ []) NotImproving
equal_value = (
  maximises,
  (first_alone, logs),
  λ g also.
      subst (IsNotBetter greatest_cover solved) (one_log greatest_cover solved (x 0 ∷ not_x 1 ∷ []) first_alone g logs also)
      (neg_ℤ (pos 1), refl, omega (arith, ints)),
)

pub returns-clause-equal : goal.returns-clause-equal
returns-clause-equal c = equal_value

pub returns-clause-not_false : goal.returns-clause-not_false
returns-clause-not_false c h =
    let same : NotImproving ≡ SolutionFalse = one_soli_fault greatest_cover solved (x 0 ∷ not_x 1 ∷ []) NotImproving SolutionFalse equal_value h in
    absurd (cc)
