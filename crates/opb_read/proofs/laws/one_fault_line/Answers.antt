use Rattle.opb_read.proofs.OneFaultLine.{one_fault_line}
use Rattle.opb_read.proofs.laws.one_fault_line.Goals as goal

pub returns : goal.returns
returns c = one_fault_line
