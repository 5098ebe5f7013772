-- What the analysis hands out is derived from what the log's kernel has.
use Rattle.std.proofs.Common.{IfSome, subst}
use Rattle.proof_rules.specs.Expression.{IsPostfixOf}
use Rattle.proof_rules.specs.State.{State, constraint_of}
use Rattle.search.proofs.cutting.learn_constraint.Goals as goal

pub learn-requires-clause-derived : goal.learn-requires-clause-derived
learn-requires-clause-derived g c =
    let learned = c.in-Some-found.learned in
    let lent : IsPostfixOf (constraint_of c.kernel.result.now.state) learned.items learned.constraint =
    subst (λ o. IfSome o (λ l. IsPostfixOf (constraint_of c.kernel.result.now.state) l.items l.constraint)) c.in-Some-found.is c.in_ok-found.ensures.derived in
    subst (λ (s : State). IsPostfixOf (constraint_of s) learned.items learned.constraint) c.kernel.ensures.state lent
