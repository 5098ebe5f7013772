use Rattle.std.proofs.Common.{subst}
use Rattle.search.specs.Solving.{IsSolved}
use Rattle.pb_main.proofs.deciding.solved.Goals as goal

pub with_proof-requires-clause-borne_out : goal.with_proof-requires-clause-borne_out
with_proof-requires-clause-borne_out g c =
    let found = c.solve-found.result.found in
    (c.args.limit, (subst (IsSolved c.args.problem.now c.args.limit found) c.in-Some.is c.solve-found.ensures).1)

pub returns-in-Some-clause-outcome : goal.returns-in-Some-clause-outcome
returns-in-Some-clause-outcome g c =
    let found = c.solve-found.result.found in
    let bears = subst (IsSolved c.args.problem.now c.args.limit found) c.in-Some.is c.solve-found.ensures in
    c.with_proof.ensures.outcome c.args.limit bears.1
