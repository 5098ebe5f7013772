use Rattle.std.proofs.Common.{rules, ◌≡◌, pos, Some}
use Rattle.proof_rules.specs.Expression.{Given}
use Rattle.proof_rules.specs.State.{constraint_of}
use Rattle.analysis.proofs.walk.resolve.Goals as goal

pub returns-clause-derived : goal.returns-clause-derived
returns-clause-derived g c =
    let given : Given = constraint_of c.args.kernel.now.state in
    let is : given (pos c.in-Some.id) ≡ Some c.in-Some-constraint.reason.now = search rules in
    c.in_ok-shrink.ensures.derived given (c.in_ok-saturate.ensures.derived given (c.in_ok-add_reason.ensures.derived given c.requires.derived is))
