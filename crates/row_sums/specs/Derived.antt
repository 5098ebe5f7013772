-- What the items of a line derive.
use Rattle.std.specs.Prelude.{List}
use Rattle.normal_form.specs.Normal.{NormalConstraint}
use Rattle.proof_steps.specs.declared.step.Item.{Item}
use Rattle.proof_rules.specs.Expression.{IsPostfixOf}
use Rattle.proof_rules.specs.State.{State, constraint_of}

-- the items write an expression of the live constraints, and this is its value
abbrev pub Derives : State → List Item → NormalConstraint → Type 0
Derives s items n = IsPostfixOf (constraint_of s) items n

-- the items write an expression of the live constraints
abbrev pub IsDerivable : State → List Item → Type 0
IsDerivable s items = (n : NormalConstraint) × Derives s items n
