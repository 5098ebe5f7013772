use Rattle.pb_main.proofs.Outcomes.{without_bytes}
use Rattle.pb_main.proofs.deciding.decide.Goals as goal

pub returns-in-Err-clause-outcome : goal.returns-in-Err-clause-outcome
returns-in-Err-clause-outcome g c =
    let none = c.without_proof.ensures in
    let unread = c.unread.ensures c.args.opb.now c.args.limit c.in-Err.ensures.denies c.in-Err.ensures.line in
    without_bytes c.args.opb.now c.without_proof.result.proof.items c.args.limit c.without_proof.result.outcome c.unread.result none.outcome none.proof unread
