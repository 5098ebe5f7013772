-- All literals of a chain from nothing are true, and a constraint with negative slack is then falsified.
use Rattle.std.proofs.Common.{[]}
use Rattle.std.proofs.lemmas.List.Elements.{All-nil}
use Rattle.propagate.specs.Literals.{MakesTrue}
use Rattle.propagate.proofs.Chains.{no_conflict_true}
use Rattle.propagate.proofs.Assignments.{listed_true}
use Rattle.propagate.proofs.laws.refuted_unsatisfiable.Goals as goal

pub returns : goal.returns
returns _ ns r a holds = no_conflict_true a ns holds [] (listed_true a [] (All-nil (MakesTrue a))) r
