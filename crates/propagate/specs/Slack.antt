-- What a constraint says under an assignment of literals that are taken as true: its slack, and what it forces.
use Rattle.std.specs.Prelude.{◌≡◌, ◌<◌, false, not, ℤ, pos, ◌-ℤ◌, ◌<ℤ◌, List}
use Rattle.linear.specs.declared.term.Lit.{Lit}
use Rattle.normal_form.specs.Normal.{Literals, NormalConstraint, sum_over}
use Rattle.linear.specs.Literal.{opposite}
use Rattle.propagate.specs.Literals.{coefficient_of, among, lists}

-- the literals that an assignment does not make false: those whose opposite is not in it
abbrev pub not_false : List Lit → Literals
not_false assigned v s = not (among assigned v (not s))

-- the sum of the coefficients of the literals that are not made false, less the degree
abbrev pub slack : NormalConstraint → List Lit → ℤ
slack n assigned = pos (sum_over (not_false assigned) n.terms) -ℤ pos n.degree

-- the slack is negative: whatever makes the assignment true breaks the constraint
abbrev pub IsFalsified : List Lit → NormalConstraint → Type 0
IsFalsified assigned n = slack n assigned <ℤ pos 0

-- the literal is unset, and its coefficient is above 0 and above the slack
pub record IsForced (assigned : List Lit) (l : Lit) (n : NormalConstraint) : Type 0 where
  pub unset : lists assigned l ≡ false
  pub opposite_unset : lists assigned (opposite l) ≡ false
  pub occurs : 0 < coefficient_of n l
  pub above : slack n assigned <ℤ pos (coefficient_of n l)
