-- The database is as it was, and what is gathered so far, and what the rest of the witness touches, is what all of it touches.
use Rattle.std.proofs.Common.{◌≡◌, drop}
use Rattle.database.proofs.Touched.{IsGatheringTouched}
use Rattle.database.proofs.database.Database.touched.Given as goal

abbrev pub invariant-loop-image : goal.invariant-loop-image
invariant-loop-image g l = (l.self ≡ l.fn.self) × IsGatheringTouched l.fn.self.live l.fn.witness (drop l.image-index l.fn.witness) l.ids
