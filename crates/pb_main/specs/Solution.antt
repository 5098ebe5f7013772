-- A solution that is handed out.
use Rattle.std.specs.Prelude.{ℕ, ℤ, Bool, List}

-- values of named variables, and the values of the objective on the way there
pub record NamedValues : Type 0 where
  pub names : List (List ℕ)
  pub values : List Bool
  pub improved : List ℤ
