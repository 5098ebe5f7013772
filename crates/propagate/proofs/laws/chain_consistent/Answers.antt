-- A forced literal's opposite is not listed.
use Rattle.propagate.proofs.Consistency as consistency
use Rattle.propagate.proofs.laws.chain_consistent.Goals as goal

pub returns : goal.returns
returns _ ns given chain h c = consistency.chain_consistent ns given chain h c
