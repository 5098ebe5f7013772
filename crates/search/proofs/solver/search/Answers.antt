-- The log of the file is presolved, and the run goes on from there.
use Rattle.std.proofs.Common.{ap, ◌∙◌, subst, sym, IfOk}
use Rattle.linear.specs.Opb.{Opb}
use Rattle.proof_log.specs.Log.{Logbook}
use Rattle.search.specs.Presolving.{BeginsPresolved}
use Rattle.search.specs.Solving.{IsSolved}
use Rattle.search.proofs.solver.search.Goals as goal

pub finish-requires-clause-presolved : goal.finish-requires-clause-presolved
finish-requires-clause-presolved g c =
    let log : Logbook = c.in_ok-log.log in
    subst (λ (l : Logbook). BeginsPresolved l.problem l) (sym c.new-3.ensures.log)
    (subst (λ (p : Opb). BeginsPresolved p log) (sym c.in_ok-log.ensures.problem) c.in_ok-log.ensures.presolved)

pub returns : goal.returns
returns g c =
    subst (λ (p : Opb). IfOk c.finish.result (λ solved. IsSolved p c.args.limit solved.found solved.log))
    (ap (λ (l : Logbook). l.problem) c.new-3.ensures.log ∙ c.in_ok-log.ensures.problem) c.finish.ensures
