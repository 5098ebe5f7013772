use Rattle.std.proofs.Common.{ap, arith, length}
use Rattle.linear.specs.declared.constraint.Signed.{Signed}
use Rattle.linear.proofs.CutConstraints.{length_between}
use Rattle.linear.proofs.constraints.LentConstraint.len.Goals as goal

pub returns : goal.returns
returns c =
    let k = c.self.inside in
    omega (arith, length_between k.all.now k.start k.end c.self.invariant.0 c.self.invariant.1, ap (λ (s : Signed). length s.terms) c.self.view_is)
