use Rattle.std.proofs.Common.{rules, pos}
use Rattle.analysis.proofs.Expressions.{cites}
use Rattle.analysis.proofs.LongerLines.{begins_alone}
use Rattle.analysis.proofs.derivation.Derivation.cited.Goals as goal

pub returns-clause-derived : goal.returns-clause-derived
returns-clause-derived c given is = cites given c.push.new.self.items (pos c.args.id) c.args.constraint.now c.in_ok-copy.field-0 (search rules) c.in_ok-copy.ensures.value is

pub returns-clause-begins : goal.returns-clause-begins
returns-clause-begins c = begins_alone c.args.id c.push.new.self.items (search rules)
