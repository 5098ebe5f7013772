-- Small constraints, to compute the rules on.
use Rattle.std.specs.Prelude.{ℕ, true, [], ◌∷◌}
use Rattle.linear.specs.declared.term.Lit.{Lit}
use Rattle.normal_form.specs.Normal.{NormalConstraint}
use Rattle.normal_form.specs.Cases.{plain, negated, normal}

-- the literal ~x of a variable
abbrev pub not_x : ℕ → Lit
not_x v = record { var = record { 0 = v }; negated = true }

-- 3 x1 1 x2 >= 2
abbrev pub three_and_one : NormalConstraint
three_and_one = normal (plain 3 1 ∷ plain 1 2 ∷ []) 2

-- 2 ~x1 1 x2 1 x4 >= 1
abbrev pub two_apart : NormalConstraint
two_apart = normal (negated 2 1 ∷ plain 1 2 ∷ plain 1 4 ∷ []) 1
