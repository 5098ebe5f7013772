-- The constraint forced literals of its own variables alone.
use Rattle.std.proofs.Common.{arith}
use Rattle.ledger.specs.Ledgers.{shown}
use Rattle.watch.proofs.Reasoned.{no_reason}
use Rattle.watch.proofs.release.count_before.Goals as goal

pub returns-clause-none : goal.returns-clause-none
returns-clause-none c k low is =
    let s = c.args.ledger.now in
    let i = c.loop-index.invariant in
    no_reason (shown s.slots) s.assigned s.reasons c.args.place k c.loop-index.index c.len-count.ensures.reasons (omega (arith, low, i.few)) is
    (omega (arith, c.loop-index-test.false, c.term_count-end.ensures.value)) (λ j d less e. i.none k j d low less is e)
