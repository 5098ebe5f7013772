use Rattle.std.proofs.Common.{◌≡◌, ◌^◌, pos, inl, inr, [], ◌∷◌, Some, None, refl, sym, subst, arith}
use Rattle.std.proofs.lemmas.Int.{ints}
use Rattle.proof_steps.specs.declared.conclusion.Conclusion.{Conclusion}
use Rattle.proof_steps.specs.declared.conclusion.Conclusion.TheVariants.{Bounds}
use Rattle.proof_steps.specs.declared.conclusion.Lower.TheVariants as lower
use Rattle.proof_steps.specs.declared.conclusion.Upper.TheVariants as upper
use Rattle.proof_rules.specs.declared.fault.StepFault.TheVariants.{TooLarge, LowerAboveBest}
use Rattle.proof_rules.specs.Cases.{least_cover, min_both, second_alone, cover_state}
use Rattle.proof_rules.specs.Fault.{IsConclusionFault, IsBoundsFault}
use Rattle.proof_rules.specs.State.{State}
use Rattle.proof_rules.proofs.OneConclusionFault.{one_conclusion_fault}
use Rattle.proof_rules.proofs.conclusion_cases.best_value_before_the_limits.Goals as goal

abbrev solved : State
solved = cover_state (Some (pos 1)) (second_alone ∷ [])

abbrev large : Conclusion
large = Bounds (lower.At (pos (2 ^ 121))) upper.Inf None

above : IsConclusionFault least_cover solved large LowerAboveBest
above = (
  refl,
  (
    min_both,
    refl,
    inr (
      (solved, refl),
      λ t is. subst (λ u. IsBoundsFault least_cover u min_both (lower.At (pos (2 ^ 121))) upper.Inf LowerAboveBest) (sym is) (inl (pos 1, refl, omega (arith, ints))),
    ),
  ),
)

pub returns-clause-above : goal.returns-clause-above
returns-clause-above c = above

pub returns-clause-not_limits : goal.returns-clause-not_limits
returns-clause-not_limits c h =
    let same : LowerAboveBest ≡ TooLarge = one_conclusion_fault least_cover solved large LowerAboveBest TooLarge above h in
    absurd (cc)
