-- Small constraints and substitutions, to compute the definitions on.
use Rattle.std.specs.Prelude.{ℕ, pos, true, false, List, [], ◌∷◌}
use Rattle.linear.specs.declared.term.Term.{Term}
use Rattle.normal_form.specs.Normal.{NormalConstraint}
use Rattle.normal_form.specs.Cases.{signed, plain, negated, normal}
use Rattle.substitution.specs.declared.image.Image.{Image}
use Rattle.substitution.specs.declared.image.Image.TheVariants.{Lit}
use Rattle.substitution.specs.Images.{Images}

-- the image of one variable: x, or ~x, of another
abbrev pub to_plain : ℕ → Image
to_plain v = Lit (record { var = record { 0 = v }; negated = false })

abbrev pub to_negated : ℕ → Image
to_negated v = Lit (record { var = record { 0 = v }; negated = true })

-- x1 -> x2 x2 -> x1
abbrev pub swap : Images
swap = (record { 0 = 1 }, to_plain 2) ∷ (record { 0 = 2 }, to_plain 1) ∷ []

-- one variable and its image
abbrev pub single : ℕ → Image → Images
single v image = (record { 0 = v }, image) ∷ []

-- 1 x1 1 ~x2 >= 1
abbrev pub first_or_not_second : NormalConstraint
first_or_not_second = normal (plain 1 1 ∷ negated 1 2 ∷ []) 1

-- 1 x1 1 x2 >= 1
abbrev pub one_of_two : NormalConstraint
one_of_two = normal (plain 1 1 ∷ plain 1 2 ∷ []) 1

-- 1 x1 1 x2 1 x3 >= 2
abbrev pub two_of_three : NormalConstraint
two_of_three = normal (plain 1 1 ∷ plain 1 2 ∷ plain 1 3 ∷ []) 2

-- 1 x2 1 x3 of a degree
abbrev pub last_two : ℕ → NormalConstraint
last_two degree = normal (plain 1 2 ∷ plain 1 3 ∷ []) degree

-- 1 x1 2 x2 >= 1
abbrev pub first_or_twice_second : NormalConstraint
first_or_twice_second = normal (plain 1 1 ∷ plain 2 2 ∷ []) 1

-- 1 ~x1 1 ~x2 1 ~x3 1 ~x4 >= 3
abbrev pub three_of_four_false : NormalConstraint
three_of_four_false = normal (negated 1 1 ∷ negated 1 2 ∷ negated 1 3 ∷ negated 1 4 ∷ []) 3

-- min: 1 x1
abbrev pub min_first : List Term
min_first = signed (pos 1) 1 ∷ []
