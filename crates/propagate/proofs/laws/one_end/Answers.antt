-- Where one ends without a conflict, the other stays within it.
use Rattle.propagate.proofs.ChainEnds as ends
use Rattle.propagate.proofs.laws.one_end.Goals as goal

pub returns : goal.returns
returns _ ns given chain other p q = ends.one_end ns given chain other p q
