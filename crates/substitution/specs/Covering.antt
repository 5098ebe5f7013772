-- When one constraint shows another without more ado. A checker of the VeriPB format looks for such a constraint
-- among those that are there before it propagates: a copy, a weakening, or anything that says no less literal by
-- literal.
use Rattle.std.specs.Prelude.{ℕ, ◌+◌, ◌-◌, ◌≤◌, true, false}
use Rattle.normal_form.specs.Normal.{NormalConstraint, coefficient, variable_bound, sum_below}

-- what E has at the literals of a variable more than N has there; `-` stops at 0
abbrev pub excess_at : NormalConstraint → NormalConstraint → ℕ → ℕ
excess_at e n v = (coefficient e v false - coefficient n v false) + (coefficient e v true - coefficient n v true)

-- the sum over literals of max(0, E(l) - N(l)): E has no literal of a variable from its bound on
abbrev pub excess : NormalConstraint → NormalConstraint → ℕ
excess e n = sum_below (variable_bound e.terms) (excess_at e n)

-- E covers N: the sum over literals of max(0, E(l) - N(l)) is at most the degree of E less that of N. Then N holds
-- where E does: at the true literals N has what E has but for the excess.
abbrev pub Covers : NormalConstraint → NormalConstraint → Type 0
Covers e n = n.degree + excess e n ≤ e.degree
