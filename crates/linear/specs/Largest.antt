-- The limits of a problem file, each a number with a name of its own, and those that follow from them, so that a limit
-- changes in one place; the code's are in `src/limits.rt`. What is limited for itself stands where it is defined: an
-- integer of a text in `pb_text`, the sum of a normal constraint in `normal_form`, an id in `proof_rules`.
use Rattle.std.specs.Prelude.{ℕ, ◌^◌, ◌*◌}

-- the size of an integer
abbrev pub largest_integer : ℕ
largest_integer = 2 ^ 90

-- the terms of a statement
abbrev pub most_terms : ℕ
most_terms = 2 ^ 20

abbrev pub most_variables : ℕ
most_variables = 2 ^ 20

-- constraints, of which an equality is one
abbrev pub most_constraints : ℕ
most_constraints = 2 ^ 20

-- the names that a table can number: those of a problem, and those that its proof adds
abbrev pub most_names : ℕ
most_names = 2 ^ 32

-- the size of a sum of terms within the limits, the objective's value for one
abbrev pub largest_objective : ℕ
largest_objective = most_terms * largest_integer
