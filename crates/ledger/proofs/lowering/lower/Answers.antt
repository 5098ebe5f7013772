-- One entry more.
use Rattle.std.proofs.Common.{◌∙◌, length, refl, arith}
use Rattle.occurrences.specs.declared.occurrence.Occurrence.{Occurrence}
use Rattle.occurrences.specs.Rows.{all_in}
use Rattle.ledger.proofs.Counters.{enough_of, entry_below, lowered_of}
use Rattle.ledger.proofs.lowering.lower.Goals as goal

abbrev none : Occurrence
none = record { place = 0; coef = 0 }

pub index-requires : goal.index-requires
index-requires c =
    let i = c.loop-index.index in
    let inside = entry_below (all_in c.args.list) i (length c.args.counters.now.items) none c.get-occurrence.result c.requires.places (c.get-occurrence.ensures none) (omega (arith, c.loop-index-test.true, c.len-index-end.ensures.value)) in
    omega (arith, inside, c.loop-index.invariant.lowered.same_length, c.loop-index.counters.ok)

pub overflow_sub-rest : goal.overflow_sub-rest
overflow_sub-rest c =
    let i = c.loop-index.index in
    let inside = entry_below (all_in c.args.list) i (length c.args.counters.now.items) none c.get-occurrence.result c.requires.places (c.get-occurrence.ensures none) (omega (arith, c.loop-index-test.true, c.len-index-end.ensures.value)) in
    enough_of c.args.counters.now.items c.loop-index.counters.items c.args.limits.now c.args.queue.now.0 c.loop-index.queue.0 (all_in c.args.list) i none c.get-occurrence.result c.index.result.now (c.get-occurrence.ensures none) (omega (arith, c.loop-index-test.true, c.len-index-end.ensures.value)) inside c.loop-index.invariant.lowered c.index.ensures

pub loop-index-preserved : goal.loop-index-preserved
loop-index-preserved c =
    let i = c.loop-index.index in
    let inside = entry_below (all_in c.args.list) i (length c.args.counters.now.items) none c.get-occurrence.result c.requires.places (c.get-occurrence.ensures none) (omega (arith, c.loop-index-test.true, c.len-index-end.ensures.value)) in
    record {
      lowered = lowered_of c.args.counters.now.items c.loop-index.counters.items c.args.limits.now c.args.queue.now.0 c.loop-index.queue.0 c.add_lowered.new.queue.0 (all_in c.args.list) i none c.get-occurrence.result c.index.result.now _ (c.get-occurrence.ensures none) (omega (arith, c.loop-index-test.true, c.len-index-end.ensures.value)) inside c.loop-index.invariant.lowered c.index.ensures refl c.add_lowered.ensures.kept c.add_lowered.ensures.there;
      count = c.add_lowered.ensures.count ∙ c.loop-index.invariant.count;
    }
