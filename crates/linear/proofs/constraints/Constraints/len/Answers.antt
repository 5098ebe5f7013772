use Rattle.std.proofs.Common.{ap, arith, length}
use Rattle.linear.proofs.CutConstraints.{length_cut}
use Rattle.linear.proofs.constraints.Constraints.len.Goals as goal

pub returns : goal.returns
returns c = omega (arith, c.len.ensures, length_cut c.self.inside.terms 0 c.self.inside.ends.items, ap length c.self.view_is)
