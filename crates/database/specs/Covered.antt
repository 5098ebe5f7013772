-- Which live constraints can cover another: those that share a literal with it, and contradictions.
use Rattle.std.specs.Prelude.{◌<◌, List, Any}
use Rattle.linear.specs.declared.term.Lit.{Lit}
use Rattle.normal_form.specs.Normal.{NormalConstraint, total}
use Rattle.propagate.specs.Literals.{coefficient_of}
use Rattle.substitution.specs.Covering.{Covers}

-- a constraint that has the literal covers it
abbrev pub IsCoveredAt : List NormalConstraint → Lit → NormalConstraint → Type 0
IsCoveredAt live l n = Any (λ e. (0 < coefficient_of e l) × Covers e n) live

-- a constraint asks for more than all its coefficients add up to
abbrev pub HasContradiction : List NormalConstraint → Type 0
HasContradiction live = Any (λ e. total e.terms < e.degree) live
