-- What a `pol` line comes to, known before the line is run.
use Rattle.std.specs.Prelude.{List}
use Rattle.normal_form.specs.Normal.{NormalConstraint}
use Rattle.proof_rules.specs.Expression.{IsPostfixOf}
use Rattle.proof_rules.specs.State.{State, constraint_of}
use Rattle.proof_steps.specs.declared.step.Item.{Item}

-- some items write one expression of cutting planes over the live constraints, whose value this is
abbrev pub IsDerived : State → NormalConstraint → Type 0
IsDerived s n = (items : List Item) × IsPostfixOf (constraint_of s) items n
