use Rattle.substitution.specs.Tables.{AreApartBefore}
use Rattle.substitution.proofs.substitution.stand_once.Given as goal

abbrev pub invariant-loop-place : goal.invariant-loop-place
invariant-loop-place l = AreApartBefore l.images l.place
