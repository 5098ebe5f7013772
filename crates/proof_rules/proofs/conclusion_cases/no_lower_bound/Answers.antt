use Rattle.std.proofs.Common.{◌≤ℤ◌, pos, inl, inr, [], ◌∷◌, Any, None, refl, sym, subst, arith}
use Rattle.std.proofs.lemmas.Int.{ints}
use Rattle.propagate.proofs.AnyOf.{any_here, any_split, any_none}
use Rattle.proof_steps.specs.declared.conclusion.Lower.TheVariants as lower
use Rattle.proof_steps.specs.declared.conclusion.Upper.TheVariants as upper
use Rattle.proof_rules.specs.declared.fault.StepFault.TheVariants.{UpperNotLogged}
use Rattle.proof_rules.specs.Cases.{least_cover, min_both, both, cover_start, cover_state}
use Rattle.proof_rules.specs.Fault.{IsBoundsFault}
use Rattle.proof_rules.specs.Legal.{worth_of}
use Rattle.proof_rules.specs.State.{State}
use Rattle.proof_rules.proofs.SmallStates.{alone_is_best}
use Rattle.proof_rules.proofs.conclusion_cases.no_lower_bound.Goals as goal

abbrev solved : State
solved = cover_state None (both ∷ [])

pub returns-clause-upper : goal.returns-clause-upper
returns-clause-upper c =
    (refl, (solved, refl, (min_both, refl, tt, any_here (λ g. worth_of least_cover g ≤ℤ pos 2) both [] (omega (arith, ints))), alone_is_best least_cover both))

none_worth_one : Any (λ g. worth_of least_cover g ≤ℤ pos 1) (both ∷ []) → ⊥
none_worth_one h = elim (any_split (λ g. worth_of least_cover g ≤ℤ pos 1) both [] h) as (λ _. ⊥) [
  | inl here ↦ omega (arith, ints, here)
  | inr later ↦ any_none (λ g. worth_of least_cover g ≤ℤ pos 1) later
]

pub returns-clause-below_best : goal.returns-clause-below_best
returns-clause-below_best c = (
  refl,
  (
    min_both,
    refl,
    inr (
      (solved, refl),
      λ t is. subst (λ u. IsBoundsFault least_cover u min_both lower.MinusInf (upper.At (pos 1)) UpperNotLogged) (sym is) (inr (tt, none_worth_one)),
    ),
  ),
)

pub returns-clause-neither : goal.returns-clause-neither
returns-clause-neither c = (refl, (cover_start, refl, (min_both, refl, tt, tt), refl))

pub returns-clause-unlogged : goal.returns-clause-unlogged
returns-clause-unlogged c = (
  refl,
  (
    min_both,
    refl,
    inr (
      (cover_start, refl),
      λ t is. subst (λ u. IsBoundsFault least_cover u min_both lower.MinusInf (upper.At (pos 2)) UpperNotLogged) (sym is)
          (inr (tt, any_none (λ g. worth_of least_cover g ≤ℤ pos 2))),
    ),
  ),
)
