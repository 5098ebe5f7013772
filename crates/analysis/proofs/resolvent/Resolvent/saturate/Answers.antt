use Rattle.std.proofs.Common.{rules}
use Rattle.analysis.proofs.Expressions.{saturates}
use Rattle.analysis.proofs.resolvent.Resolvent.saturate.Goals as goal

pub returns-in_ok-push-clause-derived : goal.returns-in_ok-push-clause-derived
returns-in_ok-push-clause-derived c given p = saturates given c.args.self.now.items.items c.push.new.self.items c.args.self.now.sum c.saturate.new.self (search rules) c.saturate.ensures.saturation p
