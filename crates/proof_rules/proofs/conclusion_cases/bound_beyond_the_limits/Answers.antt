use Rattle.std.proofs.Common.{◌≡◌, ◌^◌, pos, inl, inr, [], ◌∷◌, None, refl, sym, subst, arith}
use Rattle.std.proofs.lemmas.Int.{ints}
use Rattle.normal_form.specs.Cases.{plain, normal}
use Rattle.normal_form.specs.Normal.{NormalConstraint, Fits}
use Rattle.normal_form.specs.NormalOf.{IsNormalOf}
use Rattle.normal_form.proofs.NormalForm.{is_form, one_form}
use Rattle.proof_steps.specs.declared.conclusion.Conclusion.TheVariants.{Bounds}
use Rattle.proof_steps.specs.declared.conclusion.Lower.TheVariants as lower
use Rattle.proof_steps.specs.declared.conclusion.Upper.TheVariants as upper
use Rattle.proof_rules.specs.declared.fault.StepFault.TheVariants.{TooLarge, LowerNotShown}
use Rattle.proof_rules.specs.Cases.{least_cover, min_both, cover_state}
use Rattle.proof_rules.specs.Fault.{IsConclusionFault, IsBoundsFault}
use Rattle.proof_rules.specs.Solution.{at_least}
use Rattle.proof_rules.specs.State.{State}
use Rattle.proof_rules.proofs.OneConclusionFault.{one_conclusion_fault}
use Rattle.proof_rules.proofs.conclusion_cases.bound_beyond_the_limits.Goals as goal

abbrev start : State
start = cover_state None []

abbrev large : NormalConstraint
large = normal (plain 1 0 ∷ plain 1 1 ∷ []) (2 ^ 121)

form : IsNormalOf (at_least min_both (pos (2 ^ 121))) large
form = is_form (at_least min_both (pos (2 ^ 121))) large (omega arith, omega arith, (omega arith, omega arith, tt)) (λ set. omega (arith, ints)) refl

never_fits : (n : NormalConstraint) → IsNormalOf (at_least min_both (pos (2 ^ 121))) n → Fits n → ⊥
never_fits n is fits =
    let same : n ≡ large = one_form (at_least min_both (pos (2 ^ 121))) n large is form in
    let degree = (subst Fits same fits).degree in
    omega (arith, degree)

limits : IsConclusionFault least_cover start (Bounds (lower.At (pos (2 ^ 121))) upper.Inf None) TooLarge
limits = (
  refl,
  (
    min_both,
    refl,
    inr (
      (start, refl),
      λ t is. subst (λ u. IsBoundsFault least_cover u min_both (lower.At (pos (2 ^ 121))) upper.Inf TooLarge) (sym is) (inl (tt, never_fits)),
    ),
  ),
)

pub returns-clause-limits : goal.returns-clause-limits
returns-clause-limits c = limits

pub returns-clause-not_shown : goal.returns-clause-not_shown
returns-clause-not_shown c h =
    let same : TooLarge ≡ LowerNotShown = one_conclusion_fault least_cover start (Bounds (lower.At (pos (2 ^ 121))) upper.Inf None) TooLarge LowerNotShown limits h in
    absurd (cc)
