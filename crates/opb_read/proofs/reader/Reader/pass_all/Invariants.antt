use Rattle.std.proofs.Common.{length}
use Rattle.opb_read.specs.Progress.{HoldsLimits, Reaches}
use Rattle.opb_read.specs.Reading.{progress_of}
use Rattle.opb_read.proofs.reader.Reader.pass_all.Given as goal

abbrev pub invariant-loop-found : goal.invariant-loop-found
invariant-loop-found l = Reaches (progress_of l.fn.self) l.fn.self.left (progress_of l.self) l.self.left × HoldsLimits (progress_of l.self)

abbrev pub decreases-loop-found : goal.decreases-loop-found
decreases-loop-found l = length l.self.left
