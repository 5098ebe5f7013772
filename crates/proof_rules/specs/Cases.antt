-- Small problems and substitutions, to compute the definitions on.
use Rattle.std.specs.Prelude.{ℕ, ◌-◌, ℤ, Bool, true, false, Option, Some, None, pos, neg_ℤ, ◌^◌, List, [], ◌∷◌}
use Rattle.linear.specs.declared.constraint.Relation.TheVariants.{AtLeast}
use Rattle.linear.specs.declared.constraint.Signed.{Signed}
use Rattle.linear.specs.declared.term.Term.{Term}
use Rattle.linear.specs.Opb.{Opb}
use Rattle.normal_form.specs.Cases.{signed, signed_not, plain, negated, normal}
use Rattle.normal_form.specs.Normal.{NormalConstraint}
use Rattle.substitution.specs.declared.image.Image.TheVariants.{One}
use Rattle.substitution.specs.Cases.{to_plain}
use Rattle.substitution.specs.Images.{Images}
use Rattle.proof_rules.specs.State.{State, state_of, id_limit}

-- no objective
abbrev pub decision : Opb
decision = record { names = []; objective = None; constraints = [] }

-- min: 1 x1 1 x2 1 x3 1 x4
abbrev pub min_four : List Term
min_four = signed (pos 1) 1 ∷ signed (pos 1) 2 ∷ signed (pos 1) 3 ∷ signed (pos 1) 4 ∷ []

-- x1 -> x5 x6 -> 1
abbrev pub fifth_for_first : Images
fifth_for_first = (record { 0 = 1 }, to_plain 5) ∷ (record { 0 = 6 }, One) ∷ []

-- 1 x1 1 x2 >= 1
abbrev pub first_or_second : NormalConstraint
first_or_second = normal (plain 1 1 ∷ plain 1 2 ∷ []) 1

-- 1 x1 1 ~x2 >= 1, and its negation
abbrev pub first_or_not_second : NormalConstraint
first_or_not_second = normal (plain 1 1 ∷ negated 1 2 ∷ []) 1

abbrev pub not_first_and_second : NormalConstraint
not_first_and_second = normal (negated 1 1 ∷ plain 1 2 ∷ []) 2

-- 1 x0 1 x1 >= 1, as a file writes it, and its normal form
abbrev pub cover_written : Signed
cover_written = record { terms = signed (pos 1) 0 ∷ signed (pos 1) 1 ∷ []; relation = AtLeast; right = pos 1 }

abbrev pub cover : NormalConstraint
cover = normal (plain 1 0 ∷ plain 1 1 ∷ []) 1

-- the files of that constraint alone: with no objective, and with min: 1 x0 1 x1
abbrev pub cover_file : Opb
cover_file = record { names = (120 ∷ 48 ∷ []) ∷ (120 ∷ 49 ∷ []) ∷ []; objective = None; constraints = cover_written ∷ [] }

abbrev pub min_both : List Term
min_both = signed (pos 1) 0 ∷ signed (pos 1) 1 ∷ []

abbrev pub least_cover : Opb
least_cover = record cover_file { objective = Some min_both }

-- the same with min: -1 x0 -1 x1
abbrev pub greatest_cover : Opb
greatest_cover = record cover_file { objective = Some (signed (neg_ℤ (pos 1)) 0 ∷ signed (neg_ℤ (pos 1)) 1 ∷ []) }

-- the same with min: 1 x0 1 x1 1 x2, and so with the name x2
abbrev pub least_of_three : Opb
least_of_three = record cover_file {
  names = (120 ∷ 48 ∷ []) ∷ (120 ∷ 49 ∷ []) ∷ (120 ∷ 50 ∷ []) ∷ [];
  objective = Some (signed (pos 1) 0 ∷ signed (pos 1) 1 ∷ signed (pos 1) 2 ∷ []);
}

-- values of x0 and x1
abbrev pub both : List Bool
both = true ∷ true ∷ []

abbrev pub first_alone : List Bool
first_alone = true ∷ false ∷ []

abbrev pub second_alone : List Bool
second_alone = false ∷ true ∷ []

-- a state of such a file: the least improving value, and the solutions that are logged
abbrev pub cover_state : Option ℤ → List (List Bool) → State
cover_state least logged = record (state_of (cover ∷ [])) { least = least; logged = logged }

-- the state before the first step
abbrev pub cover_start : State
cover_start = cover_state None []

-- 1 x0 1 ~x1 >= 1, and a state with that as a second constraint
abbrev pub not_second_alone : NormalConstraint
not_second_alone = normal (plain 1 0 ∷ negated 1 1 ∷ []) 1

abbrev pub derived_state : State
derived_state = state_of (cover ∷ not_second_alone ∷ [])

-- 1 ~x0 1 ~x1 >= 2: what a solution of value 1 asks for
abbrev pub below_one : NormalConstraint
below_one = normal (negated 1 0 ∷ negated 1 1 ∷ []) 2

-- 1 ~x0 1 ~x1 >= 1: what a solution of value 2 asks for
abbrev pub below_two : NormalConstraint
below_two = normal (negated 1 0 ∷ negated 1 1 ∷ []) 1

-- a state in which one id is left
abbrev pub last_state : State
last_state = record cover_start { next = id_limit - 1 }

-- a state in which all ids are taken
abbrev pub full_state : Option ℤ → State
full_state least = record (cover_state least []) { next = id_limit }

-- 1 x0 >= 1, as a proof writes it
abbrev pub first_written : Signed
first_written = record { terms = signed (pos 1) 0 ∷ []; relation = AtLeast; right = pos 1 }

-- 1 ~x0 >= 1
abbrev pub not_first_written : Signed
not_first_written = record { terms = signed_not (pos 1) 0 ∷ []; relation = AtLeast; right = pos 1 }

-- 2^121 x0 >= 1: its coefficient is beyond the limits
abbrev pub large_written : Signed
large_written = record { terms = signed (pos (2 ^ 121)) 0 ∷ []; relation = AtLeast; right = pos 1 }

-- k x0 1 ~x0 >= 0, whose normal form is (k - 1) x0 >= 0
abbrev pub written_twice : ℕ → Signed
written_twice k = record { terms = signed (pos k) 0 ∷ signed_not (pos 1) 0 ∷ []; relation = AtLeast; right = pos 0 }

-- -2^120 x0 >= k, whose normal form is 2^120 ~x0 >= 2^120 + k
abbrev pub written_below_zero : ℕ → Signed
written_below_zero k = record { terms = signed (neg_ℤ (pos (2 ^ 120))) 0 ∷ []; relation = AtLeast; right = pos k }

-- a state with 1 x0 >= 1 and 1 ~x0 >= 1
abbrev pub contradicting_state : State
contradicting_state = state_of (normal (plain 1 0 ∷ []) 1 ∷ normal (negated 1 0 ∷ []) 1 ∷ [])
