use Rattle.std.proofs.Common.{◌≡◌, pos, inl, inr, [], ◌∷◌, None, refl, sym, subst, arith}
use Rattle.proof_steps.specs.declared.conclusion.Conclusion.{Conclusion}
use Rattle.proof_steps.specs.declared.conclusion.Conclusion.TheVariants.{Bounds}
use Rattle.proof_steps.specs.declared.conclusion.Lower.TheVariants as lower
use Rattle.proof_steps.specs.declared.conclusion.Upper.TheVariants as upper
use Rattle.proof_rules.specs.declared.fault.StepFault.TheVariants.{LowerAboveBest, LowerNotShown}
use Rattle.proof_rules.specs.Cases.{least_cover, min_both, second_alone, cover_state}
use Rattle.proof_rules.specs.Fault.{IsConclusionFault, IsBoundsFault}
use Rattle.proof_rules.specs.State.{State}
use Rattle.proof_rules.proofs.OneConclusionFault.{one_conclusion_fault}
use Rattle.proof_rules.proofs.SmallStates.{bound_open}
use Rattle.proof_rules.proofs.conclusion_cases.bound_above_a_logged_value.Goals as goal

abbrev solved : State
solved = cover_state None (second_alone ∷ [])

abbrev two : Conclusion
two = Bounds (lower.At (pos 2)) upper.Inf None

not_shown : IsConclusionFault least_cover solved two LowerNotShown
not_shown = (
  refl,
  (
    min_both,
    refl,
    inr (
      (solved, refl),
      λ t is. subst (λ u. IsBoundsFault least_cover u min_both (lower.At (pos 2)) upper.Inf LowerNotShown) (sym is)
          (inl (bound_open 2 1 None (second_alone ∷ []) tt refl (omega arith) refl refl refl)),
    ),
  ),
)

pub returns-clause-not_shown : goal.returns-clause-not_shown
returns-clause-not_shown c = not_shown

pub returns-clause-not_above : goal.returns-clause-not_above
returns-clause-not_above c h =
    let same : LowerNotShown ≡ LowerAboveBest = one_conclusion_fault least_cover solved two LowerNotShown LowerAboveBest not_shown h in
    absurd (cc)
