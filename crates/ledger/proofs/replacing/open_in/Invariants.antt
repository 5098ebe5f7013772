-- The literals so far are made false, or among the others; of those under the literals that were propagated, but for one that is kept.
use Rattle.std.proofs.Common.{◌≡◌, None, IfSome}
use Rattle.trail.specs.Trails.{on_trail}
use Rattle.ledger.specs.Watched.{AreFalseWithin, IsOpenAt}
use Rattle.ledger.proofs.replacing.open_in.Given as goal

abbrev pub invariant-loop-index : goal.invariant-loop-index
invariant-loop-index l = record {
  all : AreFalseWithin (on_trail l.trail) l.literals l.others l.fn.from l.index;
  none : l.falling ≡ None → (l.fn.falling ≡ None) × AreFalseWithin l.trail.0 l.literals l.others l.fn.from l.index;
  kept : IfSome l.fn.falling (IsOpenAt l.trail.0 l.literals l.others) → IfSome l.falling (IsOpenAt l.trail.0 l.literals l.others);
}
