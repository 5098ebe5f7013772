use Rattle.std.proofs.Common.{rules, pos}
use Rattle.analysis.proofs.Expressions.{cites}
use Rattle.analysis.proofs.resolvent.Resolvent.begin.Goals as goal

pub returns-clause-derived : goal.returns-clause-derived
returns-clause-derived c given is = cites given c.push.new.self.items (pos c.args.id) c.args.constraint.now c.load.new.self (search rules) c.in_ok-load.ensures.value is
