-- The term that was looked up is put at the end.
use Rattle.substitution.proofs.Gathering.{pushed_term}
use Rattle.substitution.proofs.part.push_term.Goals as goal

pub returns-in_ok-push-clause-coefficients : goal.returns-in_ok-push-clause-coefficients
returns-in_ok-push-clause-coefficients c = pushed_term c.args.constraint.now c.args.variable c.in-Some.term c.args.part.now c.push.new.self c.in-Some.ensures c.in_ok-push.ensures.ok
