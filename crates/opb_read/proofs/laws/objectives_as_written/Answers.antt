use Rattle.opb_read.proofs.ReadAsWritten.{objective_read_as, objective_written}
use Rattle.opb_read.proofs.laws.objectives_as_written.Goals as goal

pub returns : goal.returns
returns c names piece x = (objective_read_as names piece x, objective_written names piece x)
