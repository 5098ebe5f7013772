use Rattle.std.proofs.Common.{◌≡◌, inr, inl, List, [], ◌∷◌, ◌++◌, Some, None, refl, sym, ap, subst, ◌∙◌}
use Rattle.linear.specs.declared.term.Lit.{Lit}
use Rattle.propagate.specs.Cases.{x}
use Rattle.proof_steps.specs.declared.conclusion.Conclusion.{Conclusion}
use Rattle.proof_steps.specs.declared.conclusion.Conclusion.TheVariants.{Bounds}
use Rattle.proof_steps.specs.declared.conclusion.Lower.TheVariants as lower
use Rattle.proof_steps.specs.declared.conclusion.Upper.TheVariants as upper
use Rattle.proof_rules.specs.declared.fault.StepFault.TheVariants.{LowerNotShown, SolutionLogged}
use Rattle.proof_rules.specs.Cases.{least_cover, min_both, both, cover_state, contradicting_state}
use Rattle.proof_rules.specs.Fault.{IsConclusionFault, IsBoundsFault}
use Rattle.proof_rules.specs.Legal.{LegalSol, with_solution}
use Rattle.proof_rules.specs.State.{State, IsOutside}
use Rattle.proof_rules.proofs.OneConclusionFault.{one_conclusion_fault}
use Rattle.proof_rules.proofs.SmallStates.{both_logged}
use Rattle.proof_rules.proofs.conclusion_cases.hint_is_logged_before_infinite_bounds.Goals as goal

abbrev hint : List Lit
hint = x 0 ∷ x 1 ∷ []

abbrev unsatisfiable : Conclusion
unsatisfiable = Bounds lower.Inf upper.Inf (Some hint)

-- what the hint logs is one more solution
behind : (s t : State) → s.logged ≡ [] → LegalSol least_cover s hint t → IsBoundsFault least_cover t min_both lower.Inf upper.Inf SolutionLogged
behind s t none (g, logs, is) =
    inl (λ empty.
    let longer : s.logged ++ g ∷ [] ≡ [] = sym (ap (λ (u : State). u.logged) is) ∙ empty in
    let same : g ∷ [] ≡ [] = subst (λ l. l ++ g ∷ [] ≡ []) none longer in absurd (cc))

refused : (s : State) → IsOutside s → s.logged ≡ [] → IsConclusionFault least_cover s unsatisfiable SolutionLogged
refused s outside none = (outside, (min_both, refl, inr ((with_solution both s, (both, both_logged s, refl)), λ t takes. behind s t none takes)))

pub returns-clause-logged : goal.returns-clause-logged
returns-clause-logged c = refused (cover_state None []) refl refl

pub returns-clause-not_shown : goal.returns-clause-not_shown
returns-clause-not_shown c h =
    let same : SolutionLogged ≡ LowerNotShown = one_conclusion_fault least_cover (cover_state None []) unsatisfiable SolutionLogged LowerNotShown (refused (cover_state None []) refl refl) h in
    absurd (cc)

pub returns-clause-though_shown : goal.returns-clause-though_shown
returns-clause-though_shown c = refused contradicting_state refl refl
