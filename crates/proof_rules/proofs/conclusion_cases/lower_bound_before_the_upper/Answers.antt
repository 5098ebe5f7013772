use Rattle.std.proofs.Common.{◌≡◌, pos, inl, inr, [], ◌∷◌, None, refl, sym, subst, arith}
use Rattle.proof_steps.specs.declared.conclusion.Conclusion.{Conclusion}
use Rattle.proof_steps.specs.declared.conclusion.Conclusion.TheVariants.{Bounds}
use Rattle.proof_steps.specs.declared.conclusion.Lower.TheVariants as lower
use Rattle.proof_steps.specs.declared.conclusion.Upper.TheVariants as upper
use Rattle.proof_rules.specs.declared.fault.StepFault.TheVariants.{SolutionLogged, LowerNotShown, UpperNotLogged}
use Rattle.proof_rules.specs.Cases.{least_cover, min_both, both, cover_start, cover_state}
use Rattle.proof_rules.specs.Fault.{IsConclusionFault, IsBoundsFault}
use Rattle.proof_rules.specs.State.{State}
use Rattle.proof_rules.proofs.OneConclusionFault.{one_conclusion_fault}
use Rattle.proof_rules.proofs.SmallStates.{bound_open}
use Rattle.proof_rules.proofs.conclusion_cases.lower_bound_before_the_upper.Goals as goal

abbrev three : Conclusion
three = Bounds (lower.At (pos 3)) (upper.At (pos 1)) None

not_shown : IsConclusionFault least_cover cover_start three LowerNotShown
not_shown = (
  refl,
  (
    min_both,
    refl,
    inr (
      (cover_start, refl),
      λ t is. subst (λ u. IsBoundsFault least_cover u min_both (lower.At (pos 3)) (upper.At (pos 1)) LowerNotShown) (sym is)
          (inl (bound_open 3 0 None [] tt refl (omega arith) refl refl refl)),
    ),
  ),
)

pub returns-clause-not_shown : goal.returns-clause-not_shown
returns-clause-not_shown c = not_shown

pub returns-clause-not_upper : goal.returns-clause-not_upper
returns-clause-not_upper c h =
    let same : LowerNotShown ≡ UpperNotLogged = one_conclusion_fault least_cover cover_start three LowerNotShown UpperNotLogged not_shown h in
    absurd (cc)

abbrev solved : State
solved = cover_state None (both ∷ [])

abbrev unsatisfiable : Conclusion
unsatisfiable = Bounds lower.Inf (upper.At (pos 1)) None

infinite : IsConclusionFault least_cover solved unsatisfiable SolutionLogged
infinite = (
  refl,
  (
    min_both,
    refl,
    inr (
      (solved, refl),
      λ t is. subst (λ u. IsBoundsFault least_cover u min_both lower.Inf (upper.At (pos 1)) SolutionLogged) (sym is)
          (inl (λ empty. let same : both ∷ [] ≡ [] = empty in absurd (cc))),
    ),
  ),
)

pub returns-clause-infinite : goal.returns-clause-infinite
returns-clause-infinite c = infinite

pub returns-clause-infinite_not_upper : goal.returns-clause-infinite_not_upper
returns-clause-infinite_not_upper c h =
    let same : SolutionLogged ≡ UpperNotLogged = one_conclusion_fault least_cover solved unsatisfiable SolutionLogged UpperNotLogged infinite h in
    absurd (cc)
