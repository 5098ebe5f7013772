-- No coefficient is below the degree.
use Rattle.std.proofs.Common.{arith}
use Rattle.ledger.proofs.ChosenLiterals.{clause_from}
use Rattle.ledger.proofs.choosing.is_clause.Goals as goal

pub returns : goal.returns
returns c is =
    clause_from c.args.constraint.now c.len-index-end.ensures.normal.rises (λ k d h. c.loop-index.invariant k d (omega (arith, h, c.loop-index-test.false, c.len-index-end.ensures.value, c.loop-index.auto.index-end)))
