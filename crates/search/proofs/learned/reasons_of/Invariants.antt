use Rattle.std.proofs.Common.{take}
use Rattle.search.proofs.Reasons.{AreReasonsIn}
use Rattle.search.proofs.learned.reasons_of.Given as goal

abbrev pub invariant-loop-place : goal.invariant-loop-place
invariant-loop-place l = AreReasonsIn l.reasons (take l.place l.trail.entries)
