-- The rows summed up write one constraint, and rounding goes on from there.
use Rattle.proof_rules.specs.State.{constraint_of}
use Rattle.cuts.proofs.gomory.derive.Goals as goal

pub returns : goal.returns
returns g c =
    let given = constraint_of c.args.kernel.now.state in
    c.round.ensures given (c.in_ok-items.ensures given c.in_ok-line.ensures)
