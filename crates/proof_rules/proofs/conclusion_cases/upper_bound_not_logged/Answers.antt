use Rattle.std.proofs.Common.{◌≤ℤ◌, pos, inl, inr, [], ◌∷◌, Any, Some, refl, sym, subst, arith}
use Rattle.std.proofs.lemmas.Int.{ints}
use Rattle.propagate.proofs.AnyOf.{any_split, any_none}
use Rattle.proof_steps.specs.declared.conclusion.Lower.TheVariants as lower
use Rattle.proof_steps.specs.declared.conclusion.Upper.TheVariants as upper
use Rattle.proof_rules.specs.declared.fault.StepFault.TheVariants.{UpperNotLogged}
use Rattle.proof_rules.specs.Cases.{least_cover, min_both, second_alone, cover_state}
use Rattle.proof_rules.specs.Fault.{IsBoundsFault}
use Rattle.proof_rules.specs.Legal.{worth_of}
use Rattle.proof_rules.specs.State.{State}
use Rattle.proof_rules.proofs.SmallStates.{zero_is_bound}
use Rattle.proof_rules.proofs.conclusion_cases.upper_bound_not_logged.Goals as goal

abbrev solved : State
solved = cover_state (Some (pos 1)) (second_alone ∷ [])

none_worth_zero : Any (λ g. worth_of least_cover g ≤ℤ pos 0) (second_alone ∷ []) → ⊥
none_worth_zero h = elim (any_split (λ g. worth_of least_cover g ≤ℤ pos 0) second_alone [] h) as (λ _. ⊥) [
  | inl here ↦ omega (arith, ints, here)
  | inr later ↦ any_none (λ g. worth_of least_cover g ≤ℤ pos 0) later
]

pub returns : goal.returns
returns c = (
  refl,
  (
    min_both,
    refl,
    inr (
      (solved, refl),
      λ t is. subst (λ u. IsBoundsFault least_cover u min_both (lower.At (pos 0)) (upper.At (pos 0)) UpperNotLogged) (sym is)
          (inr (zero_is_bound solved (omega (arith, ints)), none_worth_zero)),
    ),
  ),
)
