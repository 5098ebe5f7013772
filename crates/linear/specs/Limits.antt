-- What it is for a problem, or a part of one, to be within the limits of a problem file.
use Rattle.std.specs.Prelude.{ℕ, ◌<◌, ◌≤◌, List, All, length, IfSome, unsigned_abs}
pub use Rattle.linear.specs.Largest.{largest_integer, most_terms, most_variables, most_constraints, most_names, largest_objective}
use Rattle.linear.specs.declared.term.Term.{Term}
use Rattle.linear.specs.declared.constraint.Signed.{Signed}
use Rattle.linear.specs.Table.{IsTable}
use Rattle.linear.specs.Opb.{Opb}

-- a term of a variable that the table numbers, with a coefficient within the limit
pub record IsTermWithin (variables : ℕ) (t : Term) : Type 0 where
  pub coefficient : unsigned_abs t.coef ≤ largest_integer
  pub variable : t.var.0 < variables

pub record IsSumWithin (variables : ℕ) (terms : List Term) : Type 0 where
  pub count : length terms ≤ most_terms
  pub each : All (IsTermWithin variables) terms

pub record IsConstraintWithin (variables : ℕ) (c : Signed) : Type 0 where
  pub sum : IsSumWithin variables c.terms
  pub right : unsigned_abs c.right ≤ largest_integer

-- a problem within the limits
pub record IsWithin (p : Opb) : Type 0 where
  pub table : IsTable p.names
  pub variables : length p.names ≤ most_variables
  pub objective : IfSome p.objective (IsSumWithin (length p.names))
  pub count : length p.constraints ≤ most_constraints
  pub constraints : All (IsConstraintWithin (length p.names)) p.constraints
