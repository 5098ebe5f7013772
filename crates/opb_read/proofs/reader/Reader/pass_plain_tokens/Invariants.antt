use Rattle.std.proofs.Common.{length}
use Rattle.opb_read.specs.Progress.{HoldsLimits, Reaches}
use Rattle.opb_read.specs.Reading.{progress_of}
use Rattle.opb_read.proofs.reader.Reader.pass_plain_tokens.Given as goal

abbrev pub invariant-loop : goal.invariant-loop
invariant-loop l = Reaches (progress_of l.fn.self) l.fn.self.left (progress_of l.self) l.self.left × HoldsLimits (progress_of l.self)

abbrev pub decreases-loop : goal.decreases-loop
decreases-loop l = length l.self.left
