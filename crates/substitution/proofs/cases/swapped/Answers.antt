-- The form has x2.
use Rattle.std.proofs.Common.{arith}
use Rattle.substitution.proofs.cases.swapped.Goals as goal

pub returns-clause-at_once : goal.returns-clause-at_once
returns-clause-at_once c f = omega (arith, f.plain 2)
