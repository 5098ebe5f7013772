-- A run begins without a decision, and goes on from what is presolved.
use Rattle.std.proofs.Common.{Some, sym, subst}
use Rattle.proof_log.specs.Log.{Logbook}
use Rattle.search.specs.Solving.{IsSolved}
use Rattle.search.proofs.Decisions.{no_decision}
use Rattle.search.proofs.GoingOn.{begins_presolved_on}
use Rattle.search.proofs.solver.finish.Goals as goal

pub finish-requires-clause-decisions : goal.finish-requires-clause-decisions
finish-requires-clause-decisions g c = no_decision c.args.run.log c.args.run.decisions.items c.requires.decisions

pub returns : goal.returns
returns g c =
    subst (λ (l : Logbook). IsSolved c.args.run.log.problem c.args.limit c.in_ok-found.found (Some l)) (sym c.into_log.ensures) (
      c.in_ok-found.ensures.goes_on.problem,
      c.in_ok-found.ensures.found,
      c.in_ok-found.ensures.within,
      begins_presolved_on c.args.run.log.problem c.args.run.log c.finish.new.self.log c.requires.presolved c.in_ok-found.ensures.goes_on,
    )
