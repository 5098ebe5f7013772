use Rattle.std.proofs.Common.{◌≡◌, pos, inl, inr, [], ◌∷◌, Some, None, refl, sym, subst, arith}
use Rattle.std.proofs.lemmas.Int.{ints}
use Rattle.proof_steps.specs.declared.conclusion.Conclusion.TheVariants.{Bounds}
use Rattle.proof_steps.specs.declared.conclusion.Lower.TheVariants as lower
use Rattle.proof_steps.specs.declared.conclusion.Upper.TheVariants as upper
use Rattle.proof_rules.specs.declared.fault.StepFault.TheVariants.{LowerAboveBest, LowerNotShown}
use Rattle.proof_rules.specs.Cases.{least_cover, min_both, second_alone, cover_state}
use Rattle.proof_rules.specs.Fault.{IsConclusionFault, IsBoundsFault}
use Rattle.proof_rules.specs.State.{State}
use Rattle.proof_rules.proofs.OneConclusionFault.{one_conclusion_fault}
use Rattle.proof_rules.proofs.conclusion_cases.bound_above_the_best.Goals as goal

abbrev solved : State
solved = cover_state (Some (pos 1)) (second_alone ∷ [])

above : IsConclusionFault least_cover solved (Bounds (lower.At (pos 2)) (upper.At (pos 2)) None) LowerAboveBest
above = (
  refl,
  (
    min_both,
    refl,
    inr (
      (solved, refl),
      λ t is. subst (λ u. IsBoundsFault least_cover u min_both (lower.At (pos 2)) (upper.At (pos 2)) LowerAboveBest) (sym is) (inl (pos 1, refl, omega (arith, ints))),
    ),
  ),
)

pub returns-clause-above : goal.returns-clause-above
returns-clause-above c = above

pub returns-clause-not_shown : goal.returns-clause-not_shown
returns-clause-not_shown c h =
    let same : LowerAboveBest ≡ LowerNotShown = one_conclusion_fault least_cover solved (Bounds (lower.At (pos 2)) (upper.At (pos 2)) None) LowerAboveBest LowerNotShown above h in
    absurd (cc)
