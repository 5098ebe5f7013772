-- The variable of the literal is none of those so far.
use Rattle.std.proofs.Common.{◌≢◌, All}
use Rattle.analysis.proofs.reduction.uneven.Given as goal

abbrev pub invariant-loop-index : goal.invariant-loop-index
invariant-loop-index l = All (λ x. x.0 ≢ l.literal.var.0) l.uneven.items
