use Rattle.std.proofs.Common.{All}
use Rattle.relaxation.specs.Whole.{IsWhole}
use Rattle.relaxation.proofs.multipliers.whole_multipliers.Given as goal

abbrev pub invariant-loop-multiplier : goal.invariant-loop-multiplier
invariant-loop-multiplier l = All IsWhole l.factors.items
