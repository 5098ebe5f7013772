use Rattle.std.proofs.Common.{◌≡◌, pos, inl, inr, [], None, refl, sym, subst, arith}
use Rattle.proof_steps.specs.declared.conclusion.Conclusion.TheVariants.{Bounds}
use Rattle.proof_steps.specs.declared.conclusion.Lower.TheVariants as lower
use Rattle.proof_steps.specs.declared.conclusion.Upper.TheVariants as upper
use Rattle.proof_rules.specs.declared.fault.StepFault.TheVariants.{TooLarge, LowerNotShown}
use Rattle.proof_rules.specs.Cases.{least_cover, min_both, cover_start}
use Rattle.proof_rules.specs.Fault.{IsConclusionFault, IsBoundsFault}
use Rattle.proof_rules.proofs.NotLegal.{conclusion_never}
use Rattle.proof_rules.proofs.OneConclusionFault.{one_conclusion_fault}
use Rattle.proof_rules.proofs.SmallStates.{cover_is_bound, bound_open, absurdity_not_shown}
use Rattle.proof_rules.proofs.conclusion_cases.lower_bound_not_shown.Goals as goal

two : IsConclusionFault least_cover cover_start (Bounds (lower.At (pos 2)) upper.Inf None) LowerNotShown
two = (
  refl,
  (
    min_both,
    refl,
    inr (
      (cover_start, refl),
      λ t is. subst (λ u. IsBoundsFault least_cover u min_both (lower.At (pos 2)) upper.Inf LowerNotShown) (sym is)
          (inl (bound_open 2 1 None [] tt refl (omega arith) refl refl refl)),
    ),
  ),
)

pub returns-clause-above : goal.returns-clause-above
returns-clause-above c = two

pub returns-clause-not_limits : goal.returns-clause-not_limits
returns-clause-not_limits c h =
    let same : LowerNotShown ≡ TooLarge = one_conclusion_fault least_cover cover_start (Bounds (lower.At (pos 2)) upper.Inf None) LowerNotShown TooLarge two h in
    absurd (cc)

pub returns-clause-covered : goal.returns-clause-covered
returns-clause-covered c h =
    conclusion_never least_cover cover_start (Bounds (lower.At (pos 1)) upper.Inf None) LowerNotShown None h
    (refl, (cover_start, refl, (min_both, refl, cover_is_bound None [] tt, tt), refl))

pub returns-clause-infinite : goal.returns-clause-infinite
returns-clause-infinite c = (
  refl,
  (
    min_both,
    refl,
    inr (
      (cover_start, refl),
      λ t is. subst (λ u. IsBoundsFault least_cover u min_both lower.Inf upper.Inf LowerNotShown) (sym is) (inl (refl, absurdity_not_shown)),
    ),
  ),
)
