use Rattle.std.proofs.Common.{rules}
use Rattle.analysis.proofs.Expressions.{axioms}
use Rattle.analysis.proofs.derivation.Derivation.axiom.Goals as goal

pub returns : goal.returns
returns c given = axioms given c.push.new.self.items c.args.literal c.in_ok-constraint.constraint (search rules) c.in_ok-constraint.ensures.axiom
