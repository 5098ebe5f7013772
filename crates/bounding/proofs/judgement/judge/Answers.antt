use Rattle.std.proofs.Common.{arith}
use Rattle.std.proofs.lemmas.Int.{ints}
use Rattle.bounding.proofs.judgement.judge.Goals as goal

pub returns-in-None : goal.returns-in-None
returns-in-None c = omega (arith, ints, c.in-None.ensures, c.open_sum.ensures, c.degree.ensures.value)
