use Rattle.std.proofs.Common.{◌∙◌}
use Rattle.checker.proofs.Walking.{begins}
use Rattle.checker.proofs.walk.Walk.begin.Goals as goal

pub returns-clause-begins : goal.returns-clause-begins
returns-clause-begins g c = begins c.args.problem.now c.new-2.result c.in_ok-kernel.kernel.state (c.new-2.ensures ∙ c.names.ensures.names) c.in_ok-kernel.ensures.start
