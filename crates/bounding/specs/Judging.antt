-- What a constraint says under the literals that stand.
use Rattle.std.specs.Prelude.{List}
use Rattle.linear.specs.declared.term.Lit.{Lit}
use Rattle.normal_form.specs.Normal.{NormalConstraint}
use Rattle.propagate.specs.Slack.{IsFalsified, IsForced}
use Rattle.bounding.specs.declared.judgement.Judgement.{Judgement}
use Rattle.bounding.specs.declared.judgement.Judgement.TheVariants.{False, Forces, Quiet}

-- it has negative slack, or it forces a literal; nothing is said of a quiet one
abbrev pub Says : List Lit → NormalConstraint → Judgement → Type 0
Says standing n False = IsFalsified standing n
Says standing n Forces = (l : Lit) × IsForced standing l n
Says standing n Quiet = Unit {0}
