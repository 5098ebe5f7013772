use Rattle.substitution.specs.Tables.{StandsNotBefore}
use Rattle.substitution.proofs.substitution.stands_before.Given as goal

abbrev pub invariant-loop-place : goal.invariant-loop-place
invariant-loop-place l = StandsNotBefore l.images l.place l.var.0
