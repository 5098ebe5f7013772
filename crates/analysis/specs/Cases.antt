-- A small trail, to compute the definitions on.
use Rattle.std.specs.Prelude.{ℕ, List, [], ◌∷◌, Option, None, Some}
use Rattle.linear.specs.declared.term.Lit.{Lit}
use Rattle.normal_form.specs.Normal.{NormalConstraint}
use Rattle.normal_form.specs.Cases.{plain, negated, normal}
use Rattle.propagate.specs.Cases.{x, not_x}
use Rattle.analysis.specs.declared.entry.Entry.{Entry}

abbrev pub entry : Lit → Option ℕ → ℕ → Entry
entry l reason level = record { literal = l; reason = reason; level = level }

-- x1 was decided, ~x2 forced by the constraint of id 4, and x3 decided next
abbrev pub two_decisions : List Entry
two_decisions = entry (x 1) None 1 ∷ entry (not_x 2) (Some 4) 1 ∷ entry (x 3) None 2 ∷ []

-- 1 x2 1 x4 >= 1
abbrev pub forces_since_one : NormalConstraint
forces_since_one = normal (plain 1 2 ∷ plain 1 4 ∷ []) 1

-- 1 ~x1 1 x2 >= 1
abbrev pub falsified_since_one : NormalConstraint
falsified_since_one = normal (negated 1 1 ∷ plain 1 2 ∷ []) 1

-- 1 ~x3 1 x4 >= 1
abbrev pub forces_since_two : NormalConstraint
forces_since_two = normal (negated 1 3 ∷ plain 1 4 ∷ []) 1
