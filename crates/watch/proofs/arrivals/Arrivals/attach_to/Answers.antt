-- The first one moves from the row to the end of the ledger.
use Rattle.std.proofs.Common.{◌∷◌, ◌∙◌, [], rules}
use Rattle.watch.proofs.Arriving.{first_moved}
use Rattle.watch.proofs.KeptLevels.{kept_attached}
use Rattle.watch.proofs.Resting.{rest_more, rest_same}
use Rattle.watch.proofs.arrivals.Arrivals.attach_to.Goals as goal

pub loop-alloc-preserved : goal.loop-alloc-preserved
loop-alloc-preserved c =
    let l = c.loop-alloc in
    let a = c.attach_waiting in
    let e = a.ensures in
    record {
      count = e.count;
      looked_at = e.looked_at;
      kept = λ levels k. kept_attached l.ledger a.new.ledger levels l.queue.0 a.new.queue.0 l.queue.1 a.new.queue.1 (c.index_mut.result.now ∷ []) c.in_ok-attach_waiting.ensures.ok e.assigned e.propagated e.reasons e.count e.looked_at (l.invariant.kept levels k);
      rest = λ rest k. rest_more l.ledger a.new.ledger rest (c.index_mut.result.now ∷ []) c.in_ok-attach_waiting.ensures.ok e.propagated (l.invariant.rest rest k);
      same = first_moved l.ledger.slots a.new.ledger.slots l.self-inside.row.items c.give_back.new.row.items c.index_mut.result.now a.new.slot (search rules) c.index_mut.ensures.value c.in_ok-attach_waiting.ensures.ok (c.give_back.ensures ∙ c.pop_front.ensures.rest) ∙ l.invariant.same;
    }

pub returns-in_err-attach_waiting-clause-rest : goal.returns-in_err-attach_waiting-clause-rest
returns-in_err-attach_waiting-clause-rest c rest k =
    rest_same c.loop-alloc.ledger c.attach_waiting.new.ledger rest c.in_err-attach_waiting.ensures.err c.attach_waiting.ensures.propagated (c.loop-alloc.invariant.rest rest k)

pub returns-clause-rest : goal.returns-clause-rest
returns-clause-rest c = c.loop-alloc.invariant.rest
