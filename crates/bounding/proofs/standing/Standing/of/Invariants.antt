-- The table has just the literals so far, and has room for all.
use Rattle.std.proofs.Common.{◌≡◌, ◌*◌, length, take}
use Rattle.bounding.specs.Standing.{AreJust}
use Rattle.bounding.proofs.standing.Standing.of.Given as goal

abbrev pub invariant-loop-literal : goal.invariant-loop-literal
invariant-loop-literal l = record {
  just : AreJust (take l.literal-index l.literals) l.stands.items;
  room : length l.stands.items ≡ l.count * 2;
}
