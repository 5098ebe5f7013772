use Rattle.std.proofs.Common.{◌≡◌, ◌≢◌, pos, [], ◌∷◌, Some, None, refl, subst, arith}
use Rattle.std.proofs.lemmas.Int.{ints}
use Rattle.propagate.specs.Cases.{not_x}
use Rattle.proof_rules.specs.declared.fault.StepFault.TheVariants.{NotImproving, TooManyIds}
use Rattle.proof_rules.specs.Cases.{least_cover, min_both, second_alone, full_state}
use Rattle.proof_rules.specs.Fault.{IsSoliFault, IsNotBetter}
use Rattle.proof_rules.specs.Legal.{Logs}
use Rattle.proof_rules.proofs.OneStepFault.{one_soli_fault}
use Rattle.proof_rules.proofs.SmallStates.{second_satisfies, second_completes, none_left}
use Rattle.proof_rules.proofs.SolJudged.{one_log}
use Rattle.proof_rules.proofs.step_fault_cases.no_id_left_to_improve.Goals as goal

minimises : least_cover.objective ≢ None
minimises none = let same : Some min_both ≡ None = none in absurd (cc)

pub returns-clause-improving : goal.returns-clause-improving
returns-clause-improving c = (
  minimises,
  (second_alone, record { completes = second_completes; satisfies = second_satisfies }, omega (arith, ints)),
  none_left (Some (pos 2)),
)

logs : Logs least_cover (full_state (Some (pos 1))) (not_x 0 ∷ []) second_alone
logs = record { completes = second_completes; satisfies = second_satisfies }

worse : IsSoliFault least_cover (full_state (Some (pos 1))) (not_x 0 ∷ []) NotImproving
worse = (
  minimises,
  (second_alone, logs),
  λ g also.
      subst (IsNotBetter least_cover (full_state (Some (pos 1)))) (one_log least_cover (full_state (Some (pos 1))) (not_x 0 ∷ []) second_alone g logs also)
      (pos 1, refl, omega (arith, ints)),
)

pub returns-clause-not_improving : goal.returns-clause-not_improving
returns-clause-not_improving c = worse

pub returns-clause-not_ids : goal.returns-clause-not_ids
returns-clause-not_ids c h =
    let same : NotImproving ≡ TooManyIds = one_soli_fault least_cover (full_state (Some (pos 1))) (not_x 0 ∷ []) NotImproving TooManyIds worse h in
    absurd (cc)
