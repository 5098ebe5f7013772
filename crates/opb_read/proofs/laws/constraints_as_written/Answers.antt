use Rattle.opb_read.proofs.ReadAsWritten.{constraint_read_as, constraint_written}
use Rattle.opb_read.proofs.laws.constraints_as_written.Goals as goal

pub returns : goal.returns
returns c names piece x = (constraint_read_as names piece x, constraint_written names piece x)
