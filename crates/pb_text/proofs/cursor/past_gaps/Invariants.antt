use Rattle.std.proofs.Common.{◌≡◌, length}
use Rattle.pb_text.specs.Cursor.{ahead}
use Rattle.pb_text.proofs.cursor.past_gaps.Given as goal

abbrev pub invariant-loop-next : goal.invariant-loop-next
invariant-loop-next l = ahead l.at ≡ ahead l.fn.c

abbrev pub decreases-loop-next : goal.decreases-loop-next
decreases-loop-next l = length l.at.rest.now
