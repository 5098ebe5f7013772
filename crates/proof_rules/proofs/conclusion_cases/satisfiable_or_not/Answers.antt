use Rattle.std.proofs.Common.{◌≡◌, inl, inr, [], ◌∷◌, None, refl, sym, subst}
use Rattle.proof_steps.specs.declared.conclusion.Lower.TheVariants as lower
use Rattle.proof_steps.specs.declared.conclusion.Upper.TheVariants as upper
use Rattle.proof_rules.specs.declared.fault.StepFault.TheVariants.{SolutionLogged, UpperNotLogged}
use Rattle.proof_rules.specs.Cases.{min_both, least_cover, both, cover_state}
use Rattle.proof_rules.specs.Fault.{IsBoundsFault, IsSatFault}
use Rattle.proof_rules.proofs.SmallStates.{absurdity_not_shown}
use Rattle.proof_rules.proofs.conclusion_cases.satisfiable_or_not.Goals as goal

logged : both ∷ [] ≡ [] → ⊥
logged none = absurd (cc)

pub returns-clause-unsatisfiable : goal.returns-clause-unsatisfiable
returns-clause-unsatisfiable c = (refl, logged)

pub returns-clause-unsatisfiable_not_shown : goal.returns-clause-unsatisfiable_not_shown
returns-clause-unsatisfiable_not_shown c h = logged h.1.0

pub returns-clause-infinite_bounds : goal.returns-clause-infinite_bounds
returns-clause-infinite_bounds c = (
  refl,
  (
    min_both,
    refl,
    inr (
      (cover_state None (both ∷ []), refl),
      λ t is. subst (λ u. IsBoundsFault least_cover u min_both lower.Inf upper.Inf SolutionLogged) (sym is) (inl logged),
    ),
  ),
)

pub returns-clause-satisfiable : goal.returns-clause-satisfiable
returns-clause-satisfiable c = (refl, inr ((cover_state None [], refl), λ t is. subst (λ u. IsSatFault u UpperNotLogged) (sym is) refl))

pub returns-clause-nothing_shown : goal.returns-clause-nothing_shown
returns-clause-nothing_shown c = (refl, (refl, absurdity_not_shown))
