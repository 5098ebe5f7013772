-- What a line that is written and run at once keeps to.
use Rattle.proof_rules.specs.Expression.{Given}
use Rattle.proof_rules.specs.Running.{LeavesStack}
use Rattle.row_sums.specs.declared.line.Line.{Line}

-- the items of the line leave just its stack, where ids stand for these constraints
abbrev pub LeavesItsStack : Given → Line → Type 0
LeavesItsStack given line = LeavesStack given line.items.items line.stack
