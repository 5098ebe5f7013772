-- One entry more.
use Rattle.std.proofs.Common.{◌∙◌, refl, arith}
use Rattle.occurrences.specs.declared.occurrence.Occurrence.{Occurrence}
use Rattle.occurrences.specs.Rows.{all_in}
use Rattle.ledger.proofs.Counters.{queued_of}
use Rattle.ledger.proofs.lowering.queue_below.Goals as goal

abbrev none : Occurrence
none = record { place = 0; coef = 0 }

pub loop-index-preserved : goal.loop-index-preserved
loop-index-preserved c =
    let i = c.loop-index.index in
    record {
      queued = queued_of c.args.counters.now c.args.limits.now c.args.queue.now.0 c.loop-index.queue.0 c.add_below.new.queue.0 (all_in c.args.list) i none c.get-occurrence.result _ _ (c.get-occurrence.ensures none) (omega (arith, c.loop-index-test.true, c.len-index-end.ensures.value)) c.loop-index.invariant.queued refl refl c.add_below.ensures.kept c.add_below.ensures.there;
      count = c.add_below.ensures.count ∙ c.loop-index.invariant.count;
    }
