-- What stands is what the decisions extend to, without a conflict.
use Rattle.std.proofs.Common.{List, subst}
use Rattle.linear.specs.declared.term.Lit.{Lit}
use Rattle.propagate.specs.Reach.{IsReach, reach_told}
use Rattle.propagate.specs.declared.reach.Reach.TheVariants as reaches
use Rattle.proof_rules.specs.State.{constraints}
use Rattle.search.proofs.BitingClauses.{fixpoint_bites}
use Rattle.search.proofs.retracing.try_under.Goals as goal

pub returns-clause-biting : goal.returns-clause-biting
returns-clause-biting g c says =
    let live = constraints c.args.log.now.state in
    let given : List Lit = c.args.decisions.now in
    let standing : List Lit = c.stand.new.standing.literals in
    let reach : IsReach live given (reaches.Closed standing) =
    subst (λ extent. IsReach live given (reach_told standing extent)) (c.is_closed.ensures.closed c.if-not-is_closed.false) c.in_ok-extent.ensures.reach in
    fixpoint_bites live given standing c.args.constraint.now reach (c.bites.ensures.0 says)
