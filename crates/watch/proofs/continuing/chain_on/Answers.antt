-- What stands behind the literal has reasons, and is told.
use Rattle.std.proofs.Common.{arith}
use Rattle.watch.proofs.ToldTail.{decided_reasons}
use Rattle.watch.proofs.continuing.chain_on.Goals as goal

pub tell_behind-requires-clause-forced : goal.tell_behind-requires-clause-forced
tell_behind-requires-clause-forced c k after low none =
    decided_reasons c.args.ledger.now c.decide.new.ledger c.args.last c.len-from.result k c.len-from.ensures.value c.len-from.ensures.reasons.as_many c.reveal.ensures.reasons.as_many c.in_ok-assumed.ensures.decided (omega (arith, after)) low none
