use Rattle.std.proofs.Common.{◌≡◌, ◌<ℤ◌, ◌≤ℤ◌, inr, [], ◌∷◌, Some, None, refl, sym, subst, arith}
use Rattle.std.proofs.lemmas.Int.{ints}
use Rattle.std.proofs.lemmas.List.Elements.{All-nil, All-cons}
use Rattle.proof_steps.specs.declared.conclusion.Conclusion.TheVariants.{Sat}
use Rattle.proof_rules.specs.declared.fault.StepFault.TheVariants.{UpperNotLogged}
use Rattle.proof_rules.specs.Cases.{least_cover, both, second_alone, cover_state, contradicting_state}
use Rattle.proof_rules.specs.Fault.{IsSatFault}
use Rattle.proof_rules.specs.Justified.{IsJustified}
use Rattle.proof_rules.specs.Legal.{worth_of}
use Rattle.proof_rules.specs.State.{State}
use Rattle.proof_rules.proofs.OneState.{one_justified}
use Rattle.proof_rules.proofs.SmallStates.{absurdity_not_shown, exhausted}
use Rattle.proof_rules.proofs.conclusion_cases.satisfiable_or_not_with_objective.Goals as goal

abbrev solved : State
solved = cover_state None (both ∷ second_alone ∷ [])

satisfiable : IsJustified least_cover solved (Sat None) (Some second_alone)
satisfiable = (
  refl,
  (
    solved,
    refl,
    λ empty. let same : both ∷ second_alone ∷ [] ≡ [] = empty in absurd (cc),
    (
      both ∷ [],
      [],
      refl,
      All-cons (λ h. worth_of least_cover second_alone <ℤ worth_of least_cover h) both [] (omega (arith, ints)) (All-nil (λ h. worth_of least_cover second_alone <ℤ worth_of least_cover h)),
      All-nil (λ h. worth_of least_cover second_alone ≤ℤ worth_of least_cover h),
    ),
  ),
)

pub returns-clause-satisfiable : goal.returns-clause-satisfiable
returns-clause-satisfiable c = satisfiable

pub returns-clause-not_the_first : goal.returns-clause-not_the_first
returns-clause-not_the_first c h =
    let same : Some second_alone ≡ Some both = one_justified least_cover solved (Sat None) (Some second_alone) (Some both) satisfiable h in
    absurd (cc)

pub returns-clause-unsatisfiable : goal.returns-clause-unsatisfiable
returns-clause-unsatisfiable c = (refl, (contradicting_state, refl, exhausted, refl))

pub returns-clause-logged : goal.returns-clause-logged
returns-clause-logged c = (refl, λ empty. let same : both ∷ [] ≡ [] = empty in absurd (cc))

pub returns-clause-nothing_shown : goal.returns-clause-nothing_shown
returns-clause-nothing_shown c = (refl, (refl, absurdity_not_shown))

pub returns-clause-unlogged : goal.returns-clause-unlogged
returns-clause-unlogged c = (refl, inr ((cover_state None [], refl), λ t is. subst (λ u. IsSatFault u UpperNotLogged) (sym is) refl))
