-- What an adviser's answers say.
use Rattle.std.specs.Prelude.{List}
use Rattle.linear.specs.declared.term.Lit.{Lit}
use Rattle.normal_form.specs.Normal.{NormalConstraint}
use Rattle.propagate.specs.Slack.{IsFalsified, IsForced}
use Rattle.proof_rules.specs.State.{State}
use Rattle.row_sums.specs.Derived.{Derives, IsDerivable}
use Rattle.bounding.specs.declared.advice.Advice.{Advice}
use Rattle.bounding.specs.declared.advice.Advice.TheVariants.{Conflict, Forcing, Cut, Values, Nothing}

-- a conflict derives a constraint that has negative slack under the literals that stand, and what forces one that forces a literal there; a
-- cut derives a constraint, and nothing is said of it
abbrev pub IsBorneOut : State → List Lit → Advice → Type 0
IsBorneOut s standing (Conflict items) = (n : NormalConstraint) × Derives s items n × IsFalsified standing n
IsBorneOut s standing (Forcing items) = (n : NormalConstraint) × (l : Lit) × Derives s items n × IsForced standing l n
IsBorneOut s standing (Cut items) = IsDerivable s items
IsBorneOut s standing Values = Unit {0}
IsBorneOut s standing Nothing = Unit {0}
