-- Small problems, to compute the definitions on.
use Rattle.std.specs.Prelude.{ℕ, pos, Bool, List, [], ◌∷◌, None, Some}
use Rattle.linear.specs.Opb.{Opb}
use Rattle.linear.specs.declared.constraint.Relation.TheVariants.{AtLeast, Equal}
use Rattle.linear.specs.declared.constraint.Signed.{Signed}
use Rattle.linear.specs.declared.term.Lit.{Lit}
use Rattle.normal_form.specs.Cases.{signed}
use Rattle.presolve.specs.declared.swapping.Swap.{Swap}

abbrev pub literal : ℕ → Bool → Lit
literal v negated = record { var = record { 0 = v }; negated = negated }

-- 1 x0 1 x1 >= 1
abbrev pub one_of_two : Signed
one_of_two = record { terms = signed (pos 1) 0 ∷ signed (pos 1) 1 ∷ []; relation = AtLeast; right = pos 1 }

-- 1 x0 1 x1 = 1
abbrev pub just_one_of_two : Signed
just_one_of_two = record one_of_two { relation = Equal }

abbrev pub names : List (List ℕ)
names = (120 ∷ 48 ∷ []) ∷ (120 ∷ 49 ∷ []) ∷ []

-- min: 1 x1; 1 x0 1 x1 >= 1
abbrev pub priced : Opb
priced = record { names = names; objective = Some (signed (pos 1) 1 ∷ []); constraints = one_of_two ∷ [] }

-- 1 x0 1 x1 = 1
abbrev pub even : Opb
even = record { names = names; objective = None; constraints = just_one_of_two ∷ [] }

-- two names, and no constraint
abbrev pub free : Opb
free = record { names = names; objective = None; constraints = [] }

-- 1 x0 1 x1 >= 1
abbrev pub alike : Opb
alike = record { names = names; objective = None; constraints = one_of_two ∷ [] }

-- 2 x0 1 x1 >= 2
abbrev pub weighted : Signed
weighted = record { terms = signed (pos 2) 0 ∷ signed (pos 1) 1 ∷ []; relation = AtLeast; right = pos 2 }

abbrev pub unlike : Opb
unlike = record { names = names; objective = None; constraints = weighted ∷ [] }

abbrev pub pair : ℕ → ℕ → Swap
pair x y = record { first = record { 0 = x }; second = record { 0 = y } }

-- 1 x0 >= 1, and 1 x1 >= 1
abbrev pub first_alone : Signed
first_alone = record { terms = signed (pos 1) 0 ∷ []; relation = AtLeast; right = pos 1 }

abbrev pub second_alone : Signed
second_alone = record { terms = signed (pos 1) 1 ∷ []; relation = AtLeast; right = pos 1 }

-- 1 x0 >= 1 ; 1 x1 >= 1
abbrev pub each_alone : Opb
each_alone = record { names = names; objective = None; constraints = first_alone ∷ second_alone ∷ [] }

-- 1 x0 >= 1, of two variables
abbrev pub lopsided : Opb
lopsided = record { names = names; objective = None; constraints = first_alone ∷ [] }
