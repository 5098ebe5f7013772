-- Sums of signed terms, and the constraints on them. Numbers here have no bound.
use Rattle.std.specs.Prelude.{◌≡◌, ℤ, pos, ◌+ℤ◌, ◌≤ℤ◌, List, [], ◌∷◌, if◌then◌else◌}
use Rattle.linear.specs.declared.term.Term.{Term}
use Rattle.linear.specs.declared.constraint.Relation.{Relation}
use Rattle.linear.specs.declared.constraint.Relation.TheVariants.{AtLeast, Equal}
use Rattle.linear.specs.declared.constraint.Signed.{Signed}
use Rattle.linear.specs.Valuation.{Valuation, literal_true}

-- what a term adds to the sum: its coefficient where its literal is true
abbrev pub worth : Valuation → Term → ℤ
worth a t = if literal_true a (t.var.0) t.negated then t.coef else pos 0

-- the plain sum of the terms, in which a variable may stand many times
abbrev pub sum_of : Valuation → List Term → ℤ
sum_of a [] = pos 0
sum_of a (t ∷ ts) = worth a t +ℤ sum_of a ts

-- a sum stands in this relation to the right side
abbrev pub Relates : Relation → ℤ → ℤ → Type 0
Relates AtLeast sum right = right ≤ℤ sum
Relates Equal sum right = sum ≡ right

-- an assignment meets a constraint
abbrev pub Meets : Valuation → Signed → Type 0
Meets a c = Relates c.relation (sum_of a c.terms) c.right
