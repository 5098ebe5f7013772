-- The first place waits no more.
use Rattle.std.proofs.Common.{false, arith, length, set}
use Rattle.std.proofs.lemmas.List.{length-set}
use Rattle.ledger.proofs.QueueChanges.{first_below, taken}
use Rattle.ledger.proofs.queue.Queue.take.Goals as goal

pub invariant_of-self-in-None : goal.invariant_of-self-in-None
invariant_of-self-in-None c =
    let q = c.self.inside in
    (taken q.places.items c.pop_front.new.self.items q.waiting.items c.in_ok-place-in-None.place c.self.invariant.0 c.in_ok-place-in-None.ensures.items, omega (arith, length-set q.waiting.items c.in_ok-place-in-None.place false), first_below q.first (length q.waiting.items) (length (set q.waiting.items c.in_ok-place-in-None.place false)) (omega (arith, length-set q.waiting.items c.in_ok-place-in-None.place false)) c.self.invariant.2)
