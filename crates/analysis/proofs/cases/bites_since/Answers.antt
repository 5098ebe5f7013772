-- What is forced, with its slack.
use Rattle.std.proofs.Common.{inr, refl, arith}
use Rattle.std.proofs.lemmas.Int.{ints}
use Rattle.propagate.specs.Cases.{x}
use Rattle.analysis.proofs.cases.bites_since.Goals as goal

pub returns-clause-forces : goal.returns-clause-forces
returns-clause-forces c = inr (x 4, record { unset = refl; opposite_unset = refl; occurs = omega arith; above = omega (arith, ints) })

pub returns-clause-second : goal.returns-clause-second
returns-clause-second c = inr (x 4, record { unset = refl; opposite_unset = refl; occurs = omega arith; above = omega (arith, ints) })
