use Rattle.std.proofs.Common.{All}
use Rattle.search.specs.Undoing.{IsNoReason}
use Rattle.search.proofs.outdone.Outdone.take.Given as goal

abbrev pub invariant-loop-id : goal.invariant-loop-id
invariant-loop-id l = All (IsNoReason l.trail.entries) l.gone.items
