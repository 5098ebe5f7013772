use Rattle.std.proofs.Common.{All}
use Rattle.search.specs.Undoing.{IsNoReason}
use Rattle.search.proofs.learned.LearnedConstraints.take_half.Given as goal

abbrev pub invariant-loop-one : goal.invariant-loop-one
invariant-loop-one l = All (IsNoReason l.trail.entries) l.gone.items
