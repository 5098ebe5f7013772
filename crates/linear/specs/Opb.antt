-- Problems as the linear OPB format of Roussel and Manquinho has them: a table of names, an objective or none,
-- and constraints; what satisfies one, and what an assignment is worth.
use Rattle.std.specs.Prelude.{ℕ, ℤ, pos, List, Option, None, Some, All}
use Rattle.linear.specs.declared.term.Term.{Term}
use Rattle.linear.specs.declared.constraint.Signed.{Signed}
use Rattle.linear.specs.Valuation.{Valuation}
use Rattle.linear.specs.Sum.{sum_of, Meets}

pub record Opb : Type 0 where
  pub names : List (List ℕ)
  pub objective : Option (List Term)
  pub constraints : List Signed

-- the assignment meets every constraint
abbrev pub Satisfies : Valuation → Opb → Type 0
Satisfies a p = All (Meets a) p.constraints

-- the sum of an objective, 0 where there is none
abbrev pub objective_value : Valuation → Option (List Term) → ℤ
objective_value a None = pos 0
objective_value a (Some terms) = sum_of a terms

-- what an assignment is worth
abbrev pub value_of : Valuation → Opb → ℤ
value_of a p = objective_value a p.objective
