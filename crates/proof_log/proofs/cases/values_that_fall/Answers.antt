use Rattle.std.proofs.Common.{pos, arith}
use Rattle.std.proofs.lemmas.Int.{ints}
use Rattle.proof_log.proofs.cases.values_that_fall.Goals as goal

pub returns-clause-equal : goal.returns-clause-equal
returns-clause-equal c falling = let less = falling.0 0 (pos 0) (omega arith) in omega (arith, ints, less)

pub returns-clause-rising : goal.returns-clause-rising
returns-clause-rising c falling = let less = falling.1.0 0 (pos 0) (omega arith) in omega (arith, ints, less)
