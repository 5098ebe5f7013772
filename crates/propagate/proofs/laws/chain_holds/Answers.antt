-- A literal that is false though forced would leave the constraint below its degree.
use Rattle.propagate.proofs.Chains.{chain_all_true}
use Rattle.propagate.proofs.Assignments.{listed_true}
use Rattle.propagate.proofs.laws.chain_holds.Goals as goal

pub returns : goal.returns
returns _ ns given chain c a holds h = chain_all_true a ns holds given chain (listed_true a given h) c
