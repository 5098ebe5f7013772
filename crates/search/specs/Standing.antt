-- What stands during a run of the search.
use Rattle.std.specs.Prelude.{ℕ, List, ◌++◌}
use Rattle.linear.specs.declared.term.Lit.{Lit}
use Rattle.propagate.specs.Literals.{IsConsistent, SameLiterals}

-- the literals that are decided or forced, in the order in which they came, and of how many variables, the first ones, the values are lent
pub record Assigned : Type 0 where
  pub literals : List Lit
  pub count : ℕ

-- more literals came, where they contradict nothing: those that stood already are left out
abbrev pub HasMore : Assigned → Assigned → List Lit → Type 0
HasMore old new more = IsConsistent (old.literals ++ more) → SameLiterals new.literals (old.literals ++ more)
