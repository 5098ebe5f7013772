-- One id after another.
use Rattle.watch.proofs.AddedIds.{adding_first, adding_more, added}
use Rattle.watch.proofs.lending.Occurrences.add_to.Goals as goal

pub loop-id-init : goal.loop-id-init
loop-id-init c = adding_first c.args.self c.args.ids

pub loop-id-preserved : goal.loop-id-preserved
loop-id-preserved c = adding_more c.args.self c.args.ids c.loop-id.gathered c.insert.new.self c.in-Some.id c.loop-id.rest c.next.new.self c.loop-id.invariant c.in-Some.ensures c.in_ok-insert.ensures.ok

pub returns : goal.returns
returns c = added c.args.self c.args.ids c.loop-id.gathered c.loop-id.rest c.loop-id.invariant c.in_default.ensures.0
