use Rattle.std.proofs.Common.{length}
use Rattle.solutions.proofs.packed.+word_of.Given as goal

abbrev pub decreases-word_of : goal.decreases-word_of
decreases-word_of l = length l.values.now
