-- When a constraint is shown from others: what `rup`, each goal of `red` and each lower bound ask for.
--
-- It is the check of the VeriPB format: the negation is put beside the constraints, and propagation finds a conflict. That
-- is quick to judge and finds what a solver learns, but it is no complete notion of what follows: that three pigeons do
-- not fit into two holes is not shown. A constraint that covers the wanted one literal by literal serves too, since
-- propagation may miss even a copy of a constraint with large coefficients. Which of the two is looked for first shows
-- nowhere. A constraint of degree 0 is always shown, since its negation is a contradiction.
use Rattle.std.specs.Prelude.{◌≡◌, ◌≤◌, ◌⊎◌, List, [], ◌∷◌, ◌++◌, Any}
use Rattle.linear.specs.declared.constraint.Relation.TheVariants.{AtLeast}
use Rattle.linear.specs.declared.constraint.Signed.{Signed}
use Rattle.normal_form.specs.Normal.{NormalConstraint, Fits, largest_sum}
use Rattle.normal_form.specs.NormalOf.{IsNormalOf, size_sum}
use Rattle.normal_form.specs.Negation.{IsNegation}
use Rattle.propagate.specs.Chain.{IsRefuted}
use Rattle.substitution.specs.Covering.{Covers}

-- some constraint covers it, or the constraints are refuted together with its negation
abbrev pub IsShown : List NormalConstraint → NormalConstraint → Type 0
IsShown live n = Any (λ e. Covers e n) live ⊎ ((m : NormalConstraint) × IsNegation n m × IsRefuted (live ++ m ∷ []))

-- 0 >= 1
abbrev pub absurdity : NormalConstraint
absurdity = record { terms = []; degree = 1 }

-- a written constraint is within the limits, and this is its normal form
pub record IsAdmitted (c : Signed) (n : NormalConstraint) : Type 0 where
  pub relation : c.relation ≡ AtLeast
  pub sizes : size_sum c.terms ≤ largest_sum
  pub form : IsNormalOf c n
  pub fits : Fits n
