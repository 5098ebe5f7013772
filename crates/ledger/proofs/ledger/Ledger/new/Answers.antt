-- Nothing is there.
use Rattle.ledger.proofs.Standing.{empty}
use Rattle.ledger.proofs.ledger.Ledger.new.Goals as goal

pub invariant_of-result : goal.invariant_of-result
invariant_of-result c =
    empty c.new.result.items c.new-7.result c.new-2.result c.new-5.result c.new-3.result.items c.new-4.result.items c.new-6.result c.new-8.result.items _ c.new-9.result c.new.ensures.items c.new-7.ensures c.new-2.ensures c.new-5.ensures c.new-3.ensures.items c.new-4.ensures.items c.new-6.ensures c.new-8.ensures.items
