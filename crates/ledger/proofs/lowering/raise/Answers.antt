-- One entry more.
use Rattle.std.proofs.Common.{length, arith}
use Rattle.normal_form.specs.Normal.{largest_sum}
use Rattle.occurrences.specs.declared.occurrence.Occurrence.{Occurrence}
use Rattle.occurrences.specs.Rows.{all_in}
use Rattle.ledger.proofs.Counters.{entry_below, raised_of, room_of}
use Rattle.ledger.proofs.lowering.raise.Goals as goal

abbrev none : Occurrence
none = record { place = 0; coef = 0 }

pub index-requires : goal.index-requires
index-requires c =
    let i = c.loop-index.index in
    let inside = entry_below (all_in c.args.list) i (length c.args.counters.now.items) none c.get-occurrence.result c.requires.places (c.get-occurrence.ensures none) (omega (arith, c.loop-index-test.true, c.len-index-end.ensures.value)) in
    omega (arith, inside, c.loop-index.invariant.same_length, c.loop-index.counters.ok)

pub overflow_add-sum : goal.overflow_add-sum
overflow_add-sum c =
    let i = c.loop-index.index in
    let inside = entry_below (all_in c.args.list) i (length c.args.counters.now.items) none c.get-occurrence.result c.requires.places (c.get-occurrence.ensures none) (omega (arith, c.loop-index-test.true, c.len-index-end.ensures.value)) in
    omega (arith, room_of c.args.counters.now.items c.loop-index.counters.items (all_in c.args.list) i none c.get-occurrence.result c.index.result.now largest_sum (c.get-occurrence.ensures none) (omega (arith, c.loop-index-test.true, c.len-index-end.ensures.value)) inside c.loop-index.invariant c.index.ensures c.requires.room)

pub loop-index-preserved : goal.loop-index-preserved
loop-index-preserved c =
    let i = c.loop-index.index in
    let inside = entry_below (all_in c.args.list) i (length c.args.counters.now.items) none c.get-occurrence.result c.requires.places (c.get-occurrence.ensures none) (omega (arith, c.loop-index-test.true, c.len-index-end.ensures.value)) in
    raised_of c.args.counters.now.items c.loop-index.counters.items (all_in c.args.list) i none c.get-occurrence.result c.index.result.now (c.get-occurrence.ensures none) (omega (arith, c.loop-index-test.true, c.len-index-end.ensures.value)) inside c.loop-index.invariant c.index.ensures
