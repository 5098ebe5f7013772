-- The variables rise, so the last one is the greatest.
use Rattle.std.proofs.Common.{arith}
use Rattle.normal_form.proofs.LastVariable.{last_bound}
use Rattle.normal_form.proofs.normal.Normal.variable_count.Goals as goal

pub returns-clause-value : goal.returns-clause-value
returns-clause-value c = last_bound c.args.self.now.terms _ c.term.result c.len-count.ensures.normal.rises (omega arith) c.term.ensures.value
