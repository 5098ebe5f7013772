-- Covering is told by the other excess too.
use Rattle.std.proofs.Common.{◌+◌, arith}
use Rattle.substitution.proofs.BothExcesses.{tested_by_other}
use Rattle.substitution.proofs.covering.covers_shorter.Goals as goal

pub returns : goal.returns
returns c =
    tested_by_other c.args.constraint.now c.args.other.now ((c.degree.result + c.sum.result) + c.excess_of.result) (c.degree-2.result + c.sum-2.result)
    (omega (arith, c.degree.ensures.value, c.sum.ensures.value, c.excess_of.ensures.value)) (omega (arith, c.degree-2.ensures.value, c.sum-2.ensures.value))
